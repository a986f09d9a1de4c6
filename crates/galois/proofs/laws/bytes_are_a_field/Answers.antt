use Rattle.galois.proofs.FieldSums.{sum-byte, sum_assoc, sum_comm, sum_zero, sum_self}
use Rattle.galois.proofs.FieldProducts.{product-byte, product_assoc, product_comm, product-one, product-sum}
use Rattle.galois.proofs.Inverses.{inverse, inverse-byte, product-inverse}
use Rattle.galois.proofs.laws.bytes_are_a_field.Goals as goal

pub returns : goal.returns
returns c = record {
  sum_is_byte = sum-byte;
  sum_associates = sum_assoc;
  sum_commutes = sum_comm;
  sum_with_zero = sum_zero;
  sum_with_itself = sum_self;
  product_is_byte = λ a b ha hb. product-byte a b ha;
  product_associates = λ a b c ha hb hc. product_assoc a b c ha hb;
  product_commutes = product_comm;
  product_with_one = product-one;
  product_distributes = product-sum;
  product_with_inverse = λ a ha other. (inverse a, inverse-byte a ha, product-inverse a ha other);
}
