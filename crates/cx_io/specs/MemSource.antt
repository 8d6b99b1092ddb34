-- A source over bytes in memory.
use Rattle.std.specs.Prelude.{ℕ, List}

pub record SourceState : Type 0 where
  -- the bytes that are left
  pub rest : List ℕ
  -- how many bytes a read gives at most
  pub step : ℕ
  -- how many reads there were
  pub calls : ℕ
  -- how many of them failed
  pub faults : ℕ
  -- the numbers of the reads that fail, counted from 1
  pub fails : List ℕ
