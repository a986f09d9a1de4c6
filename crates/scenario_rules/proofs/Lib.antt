mod PlacedTexts
mod NewRows
mod RuleOrder
