-- Each word of a line is shown to have no newline.
pub mod PlainEdges
