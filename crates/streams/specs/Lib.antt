-- What the contracts cite: calls at the blocks of a text.
pub mod Blocks
