mod DecimalTexts
mod MarkedTexts
mod OpKinds
mod WorkedOps
