-- Texts that may be a number in its one form.
use Rattle.std.specs.Prelude.{◌≡◌, ◌≢◌, ℕ, ◌<◌, List, length, slice_index}

-- the text is not empty, and begins with no sign and no zero but a lone one
pub record HasOneForm (text : List ℕ) : Type 0 where
  pub some : 0 < length text
  pub unsigned : slice_index text 0 ≢ 43
  pub lone : slice_index text 0 ≡ 48 → length text ≡ 1
