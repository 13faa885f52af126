-- The operations of a field (EN 302 307-1, 5.3.1).

-- zero, one, sum, product and inverse of a field, as one value
pub record Operations (F : Type 0) : Type 0 where
  pub zero : F
  pub one : F
  pub sum : F → F → F
  pub product : F → F → F
  pub inverse : F → F
