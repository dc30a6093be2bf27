pub mod Sets
pub mod Colours
pub mod Graph
pub mod Edges
pub mod Vertices
