-- How to read the proofs of `hex_cells`: sets of cells, the board graph, and names of cells.
-- 1. Sets, specs/Sets.antt with src/sets.rt: proofs/Bits (what each operation does to the bits),
--    WithCell, Shared, Counts (the cells below a number) and Ranks; HalfBits for src/halves.rt and
--    `nth`, Powers for the table in src/singles.rt.
-- 2. The graph, specs/Graph.antt and Edges.antt: src/graph.rt with Around and Beside, src/edges.rt
--    with Tables.
-- 3. Names, specs/Vertices.antt: src/decimals.rt with Digits, src/vertices.rt with Naming.

-- Laws for the layers above.
pub mod Bits
pub mod Beside
pub mod Counts
pub mod Digits
pub mod Naming
pub mod Tables
pub mod ColourLaws
pub mod WithCell
pub mod Ranges
pub mod Filters
pub mod HalfBits
-- Steps of this crate's own proofs.
mod Around
mod Ranks
mod Powers
mod Shared
