-- How to read the proofs of `hex_devices::answer_input` and `hand_over`: a whole input and its
-- text, a turn and its text.
-- 1. What is claimed: specs/Errors.antt (as which stop an error ends a run), Devices.antt (what
--    devices tell, and their counts of faults), Inputs.antt, Handing.antt, Statuses.antt.
-- 2. An input: `take_all` in src/inputs.rt with proofs/InputLaws (what was taken, over one read
--    after another), and then `answer_input` in src/answers.rt.
-- 3. A turn: `give_text` in src/giving.rt, `hand_over` in src/handing.rt.
-- 4. For the crates above: CountLaws (counts, over one call after another), StatusLaws (each status
--    is that of one end).

-- Laws for the layers above.
pub mod CountLaws
pub mod StatusLaws
-- Steps of this crate's own proofs.
mod InputLaws
