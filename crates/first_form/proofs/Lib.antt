mod PlainLists
mod PlainForms
mod PlainTexts
