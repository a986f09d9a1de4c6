mod RunBounds
mod WidthsFound
mod PlanLemmas
