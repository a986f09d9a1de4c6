pub mod Draws
pub mod PlacedGroups
pub mod PartialGroups
pub use Rattle.placement_order.specs.Order.{DrawRequest, order_of, units_on}
pub use Rattle.placement_order.specs.OrderLaws.{MayBeTried, MayGive, NoneIsLeft}
pub use Rattle.placement_order.specs.Room.{room_left}
pub use Rattle.placement_order.specs.Stages.{ComesTo, stage_of}
pub use Rattle.slot_search.specs.HandSeats.{draw_request}
pub use Rattle.placement.specs.Draws.{FindsNoRoom, IfNoMemory, IfNoRoom, IsSameDesk, LosesSlots}
pub use Rattle.placement.specs.PlacedGroups.{FindsNoPlace, Places}
