-- Linked blocks: what a newer block leaves, who is a node, links, what is told, the one tree that
-- they show, and where the root's block ends.

-- Laws for the layers above.
pub mod BlockLaws
pub mod Members
pub mod NodeLaws
pub mod Turned
pub mod Orders
pub mod Links
pub mod GameLaws
pub mod Within
pub mod OneTree
pub mod RootEnds
