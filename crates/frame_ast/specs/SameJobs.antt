-- When two schedules say the same.
use Rattle.std.specs.Prelude.{◌≡◌}
use Rattle.frame_ast.specs.declared.script.NewJob.{NewJob}

-- the same numbers, and of a list the same items
pub record SameJob (a b : NewJob) : Type 0 where
  pub auto : a.auto ≡ b.auto
  pub handle : a.handle ≡ b.handle
  pub kernel : a.kernel ≡ b.kernel
  pub args : a.args.items ≡ b.args.items
  pub cut : a.cut ≡ b.cut
  pub defer : a.defer ≡ b.defer
  pub waive : a.waive.items ≡ b.waive.items
  pub after : a.after.items ≡ b.after.items
