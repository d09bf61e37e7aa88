pub mod KindTexts
