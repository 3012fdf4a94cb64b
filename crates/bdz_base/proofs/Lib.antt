pub mod Buffers
mod Bytes
pub mod Digits
mod Halves
pub mod Numbers
pub mod OneAnswer
mod Packing
pub mod Refusals
pub mod SizeLaws
pub mod TwoKeys
pub mod VertexLaws
pub mod WidthLaws
pub mod Widths
