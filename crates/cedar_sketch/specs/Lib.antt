pub mod SketchTexts
