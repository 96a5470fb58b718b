-- A script before its first section.
use Rattle.std.proofs.Common.{refl, ℕ, ℤ, pos, List, None, arith}
use Rattle.frame_ast.specs.declared.script.Script.{Script}
use Rattle.frame_ast.specs.Orders.{Table}
use Rattle.frame_plan.specs.declared.sections.SectionBook.{SectionBook}
use Rattle.frame_plan.specs.Sections.{IsAt, AreLeft}
use Rattle.frame_rows.specs.Between.{IsBetween}

pub no_cells : ℕ → ℤ
no_cells w = pos 0

-- no words were left
pub none_left : (mem : List ℤ) → AreLeft mem no_cells 0
none_left mem = (omega arith, λ w l. absurd (omega (arith, l)))

pub starts : (script : Script) (table : Table) (book : SectionBook) (mem : List ℤ) → IsAt book script table 0 no_cells 0
    → IsBetween script table book None mem
starts script table book mem at = record {
  from = 0;
  carried = no_cells;
  len = 0;
  at = at;
  outcome = refl;
  left = none_left mem;
}
