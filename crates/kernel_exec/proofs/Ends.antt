-- What a whole Execute does.
use Rattle.std.proofs.Common.{◌≡◌, ℕ, ◌+◌, false, IsTrue, ℤ, List, sym, ap, subst}
use Rattle.std.specs.Prelude.{not}
use Rattle.frame_ast.specs.declared.kernel.Kernel.{Kernel}
use Rattle.frame_ast.specs.Contents.{Contents}
use Rattle.frame_ast.specs.Kernels.{execution, store_after}
use Rattle.frame_ast.specs.Arguments.{arguments}
use Rattle.frame_ast.specs.JobRuns.{full_steps}
use Rattle.frame_ast.specs.Checked.{is_read, may_write, written_param, IsChecked}
use Rattle.frame_ast.specs.Simulation.{AlikeEnds}
use Rattle.frame_ast.proofs.Simulation.{execution_alike}
use Rattle.kernel_exec.specs.declared.binds.Bind.{Bind}
use Rattle.kernel_exec.specs.Binds.{widths}
use Rattle.kernel_exec.specs.Words.{words}
use Rattle.kernel_exec.specs.Footprint.{Uses, IsWritten}
use Rattle.kernel_exec.specs.Layout.{StandFor}
use Rattle.kernel_exec.specs.Conditions.{BindsFit, IsUnwritten}
use Rattle.kernel_exec.proofs.Stand.{AnyIndex, words_stand}
use Rattle.kernel_exec.proofs.Rights.{uses_word}
use Rattle.kernel_exec.proofs.Apart.{not_length, used}
use Rattle.kernel_exec.proofs.Pieces.{only_written_words_change}

module _ (kernel : Kernel) (binds : List Bind) (is : IsChecked kernel) (fit : BindsFit kernel binds) (index : ℕ) where
  pub stands_after : (steps : ℕ) (cells : ℕ → ℤ) (s : List Contents) → StandFor binds cells s
      → AlikeEnds (StandFor binds) (execution (words binds index) kernel.body.statements.items steps index cells)
      (execution (arguments (widths binds) index) kernel.body.statements.items steps index s)
  stands_after steps cells s r =
      execution_alike (StandFor binds) kernel is AnyIndex _ _ (words_stand kernel binds is fit index) steps index cells s r

  -- a word that may not be written is none that is written by the footprint
  not_written : (w : ℕ) → IsUnwritten kernel binds w → IsWritten kernel.params.items binds index (index + 1) w → ⊥
  not_written w out x = out.each x.number x.bind may x.has_bind (uses_word x.bind index (index + 1) w use_.1) (not_length x.bind index (index + 1) w use_.1)
    where
      use_ : (is_read x.param.access ≡ false) × Uses x.bind index (index + 1) w
      use_ = used (is_read x.param.access) x.bind index (index + 1) w x.writes

      may : IsTrue (may_write kernel.params.items x.number)
      may = subst (λ o. IsTrue (written_param o)) (sym x.has_param) (ap not use_.0)

  pub unwritten_after : (cells : ℕ → ℤ) (w : ℕ) → IsUnwritten kernel binds w
      → store_after (execution (words binds index) kernel.body.statements.items full_steps index cells) w ≡ cells w
  unwritten_after cells w out = only_written_words_change.at_one kernel binds full_steps index cells w is fit (not_written w out)
