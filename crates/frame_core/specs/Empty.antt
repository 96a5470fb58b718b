-- A plan without pieces. It stands where a plan has to be named and none is meant.
use Rattle.std.specs.Prelude.{[], Vec, refl}
use Rattle.std.proofs.Common.{lit<, lit≤}
use Rattle.std.specs.declared.alloc.Global.{Global}
use denote.RawPtr.{null_ptr}
use Rattle.frame_core.specs.declared.plan.Plan.{Plan}

abbrev pub no_heap : Global
no_heap = record { memory = record { seal = tt } }

abbrev pub no_items : {A : Type 0} → Vec A Global
no_items = record {
  items = [];
  ptr = null_ptr;
  len = 0;
  cap = 0;
  alloc = no_heap;
  ok = (refl, lit≤ tt);
  small = lit< tt;
}

abbrev pub no_plan : Plan
no_plan = record {
  kernels = no_items;
  codes = no_items;
  names = [];
  literals = no_items;
  jobs = no_items;
  segments = no_items;
  first = no_items;
  cells = 0;
  words = 0;
}
