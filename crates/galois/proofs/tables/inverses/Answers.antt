use Rattle.std.proofs.Common.{refl}
use Rattle.galois.specs.Field.{doubled, doubled_times, product_below, field_product}
use Rattle.galois.proofs.TableEntries.{inverses_by_test}
use Rattle.galois.proofs.tables.inverses.Goals as goal

pub returns : goal.returns
unfolding doubled doubled_times product_below field_product
returns c = inverses_by_test _ refl
