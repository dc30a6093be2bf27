-- How to read the proof of `hex_io::give`: what a link was given.
-- 1. What is claimed: src/links.rt (a read, and a write), by specs/Told.antt and Causes.antt;
--    src/giving.rt, by specs/Grew.antt.
-- 2. `give`: proofs/BothLaws and GaveLaws (one write after another), then its loop.
-- 3. In memory: src/source.rt with proofs/Parts (what a read moves), src/in_memory.rt by
--    specs/Mem.antt, src/file_shelves.rt by specs/Shelves.antt and MemShelves.antt.

-- Laws for the layers above.
pub mod BothLaws
pub mod GaveLaws
pub mod ResultLaws
-- Steps of this crate's own proofs.
mod Parts
