pub mod InHand
pub mod PieceLaws
