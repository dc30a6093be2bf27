-- How to read the proofs: Sure has why an entry between a player's edges makes him sure of linking
-- them, which wins by a law of conn_store, Ranks what a look-ahead tells and chooses by, and
-- FreeCells by which cells a line may go on. Of the search itself each loop has an invariant of a
-- line or two.
mod Sure
mod Ranks
mod FreeCells
