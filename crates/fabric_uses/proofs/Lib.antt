mod TraderHands
mod NoneHeld
mod KnownContent
