-- The numbers of a grid's sizes, in bounds or not.
use Rattle.std.specs.Prelude.{ℕ}

pub record Numbers : Type 0 where
  pub groups : ℕ
  pub lanes : ℕ
  pub owns : ℕ
  pub shared : ℕ
  pub field : ℕ
