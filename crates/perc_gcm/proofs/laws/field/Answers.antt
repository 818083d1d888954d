use Rattle.perc_gcm.proofs.FieldLaws.{Linear-left, product_is_element, product_assoc, product_comm, product_one}
use Rattle.perc_gcm.proofs.laws.field.Goals as goal

pub returns : goal.returns
returns c = record {
  element = product_is_element;
  associative = product_assoc;
  commutative = product_comm;
  neutral = product_one;
  linear = λ a b d. (Linear-left d).sums a b;
}
