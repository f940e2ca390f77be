-- Laws of reading in blocks and of writing in pieces.
pub mod BlockLaws
pub mod PieceLaws
