-- Which fault of a device is told as which fault of an operation.
use Rattle.std.proofs.Common.{◌≡◌, ℕ, Result, Ok, Err, IsErrAnd, sym, ap, ◌∙◌}
use Rattle.std.specs.Result.{IsErrOf}
use Rattle.flex_io.specs.declared.raw_place.RawPlace.{RawPlace}
use Rattle.flex_io.specs.declared.fault.Fault.{Fault}
use Rattle.flex_io.specs.declared.fault.Fault.TheVariants as device
use Rattle.plain_file.specs.Plain.{StockView, HasFailed}
use Rattle.plain_file.specs.declared.op.PlainFault.{PlainFault}
use Rattle.plain_file.specs.declared.op.PlainFault.TheVariants.{Slot, NoMemory}

-- the error of a result, or this one where it has none
abbrev error_of : {T E : Type 0} → E → Result T E → E
error_of other (Ok value) = other
error_of other (Err error) = error

-- a slot's fault is told of a slot that failed alone
pub slot_failed : {T U : Type 0} (given : Fault) (told : PlainFault) → (told ≡ Slot → given ≡ device.Failed)
    → IsErrOf {T = T} (Err told) Slot → IsErrOf {T = U} (Err given) device.Failed
slot_failed given told from is = ap Err (from (ap (error_of Slot) is))

-- a fault is told as it was told
pub same_fault : {T U : Type 0} (told : PlainFault) → IsErrOf {T = T} (Err told) Slot → IsErrOf {T = U} (Err told) Slot
same_fault told is = ap Err (ap (error_of Slot) is)

-- and it goes on as it was told
pub fault_goes_on : {T U : Type 0} (r : Result T PlainFault) (told : PlainFault) → IsErrAnd r (λ f. f ≡ told) → IsErrOf r Slot → IsErrOf {T = U} (Err told) Slot
fault_goes_on (Ok value) told goes is = absurd goes
fault_goes_on (Err f) told goes is = ap Err (sym goes ∙ ap (error_of Slot) is)

two_faults : NoMemory ≡ Slot → ⊥
two_faults h = cc

-- want of memory is no slot's fault
pub no_memory_fault : {T : Type 0} (r : Result T PlainFault) → IsErrAnd r (λ told. told ≡ NoMemory) → IsErrOf r Slot → ⊥
no_memory_fault (Ok value) is slot = absurd is
no_memory_fault (Err told) is slot = two_faults (sym is ∙ ap (error_of Slot) slot)

-- so it asks for no slot that failed
pub no_slot_failed : {S T : Type 0} (place_of : S → RawPlace) (faults : S → ℕ) (stock : StockView S) (r : Result T PlainFault)
    → IsErrAnd r (λ told. told ≡ NoMemory) → IsErrOf r Slot → HasFailed place_of faults stock
no_slot_failed place_of faults stock r is slot = absurd (no_memory_fault r is slot)
