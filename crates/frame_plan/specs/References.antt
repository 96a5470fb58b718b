-- The reference that a test asks for, as the planner knows it.
use Rattle.std.specs.Prelude.{ℕ, ◌≡◌, Option, None, Some, slice_get}
use Rattle.frame_ast.specs.declared.script.Order.{Order}
use Rattle.frame_ast.specs.declared.script.Order.TheVariants.{When}
use Rattle.frame_ast.specs.declared.script.Statement.{Statement}
use Rattle.kernel_exec.specs.declared.binds.Bind.TheVariants.{Ref}
use Rattle.native_array.specs.declared.reference.RefAt.{RefAt}
use Rattle.frame_plan.specs.declared.section.Test.{Test}
use Rattle.plan_state.specs.declared.state.Value.TheVariants.{Whole}
use Rattle.plan_state.specs.declared.state.Container.{Container}
use Rattle.plan_state.specs.declared.state.Planner.{Planner}

-- The name stands for a whole container, which is a reference at that word.
pub record IsReferenceOf (p : Planner) (name : ℕ) (at : RefAt) : Type 0 where
  pub container : ℕ
  pub it : Container
  pub value : slice_get p.world.values.items name ≡ Some (Whole container)
  pub has : slice_get p.world.containers.items container ≡ Some it
  pub bind : it.bind ≡ Ref at

-- a test has the sign and the number of its `when`, and its reference
abbrev pub IsOfTest : Planner → Test → Order → Type 0
IsOfTest p test (When name sign value count) = (test.sign ≡ sign) × (test.bound ≡ value) × IsReferenceOf p name test.at
IsOfTest p test _ = ⊥

-- there is one where a statement follows
abbrev pub IsTestFor : Planner → Option Statement → Option Test → Type 0
IsTestFor p None None = Unit {0}
IsTestFor p None (Some test) = ⊥
IsTestFor p (Some x) None = ⊥
IsTestFor p (Some x) (Some test) = IsOfTest p test x.act
