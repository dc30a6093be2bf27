-- How to read the proof of what edge_tables answers of its entries.
-- 1. What is claimed: specs/Entries.antt (which entries a key has, which lie inside a region, which
--    is the narrowest) with src/tables.rt; specs/Covers.antt with src/covers.rt and src/cases.rt.
-- 2. The lemmas: Insides (a carrier inside a region), Newest (an entry beside the others).
mod Insides
mod Newest
