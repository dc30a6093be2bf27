-- What the answers to the goals of decided_turn rest on.
mod Searched
