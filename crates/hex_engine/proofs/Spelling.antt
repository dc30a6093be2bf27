-- A test of two texts that says when they are equal.
pub use Rattle.sgf_game.proofs.Texts.{same_text}
