-- Steps of this crate's own proofs.
mod ScriptLaws
mod OneCell
mod TwoByTwo
mod RaceScript
