-- `FieldLaws` has what is true of a line's fields, `SplitLaws` of the fields as `split` gives them, `NumberLaws` of decimal numbers and of the numbers read,
-- `ReasonLaws` of the reasons why a line is answered `?`, `Letters` of the letters; `Examples` has worked lines, `ReasonExamples` worked reasons.
pub mod FieldLaws
pub mod SplitLaws
pub mod NumberLaws
pub mod ReasonLaws
pub mod Letters
pub mod Examples
pub mod ReasonExamples
