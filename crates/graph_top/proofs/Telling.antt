-- What is written of a script and its table is written of the words that ask for them.
use Rattle.std.proofs.Common.{◌≡◌, refl, subst, ℕ, Bool, true, false, ◌&&◌, not, List, Option, None, Result, Ok, Err, ◌↔◌}
use Rattle.frame_ast.specs.declared.script.Script.{Script}
use Rattle.plan_statements.specs.Tables.{columns_of}
use Rattle.table_in.specs.Columns.{NamedColumn}
use Rattle.command_words.specs.Words.{Text}
use Rattle.frame_top.specs.Words.{workers_in}
use Rattle.frame_top.specs.Inputs.{Told, Reads}
use Rattle.frame_top.specs.Refusals.{table_refusal, named_columns}
use Rattle.graph_top.specs.Drawn.{Draws, Whole, Part, Nothing, IsDrawing, IsFrameDrawing}

-- a text of one kind is one of another kind
pub kind_drawn : (is is' : List ℕ → Type 0) → ((t : List ℕ) → is t → is' t) → (old new : Option (List ℕ)) (before now result : ℕ)
    → Draws is old new before now result → Draws is' old new before now result
kind_drawn is is' f old new before now result (Whole d t i a e) = Whole d t (f t i) a e
kind_drawn is is' f old new before now result (Part u t i n a r) = Part u t (f t i) n a r
kind_drawn is is' f old new before now result (Nothing n s e) = Nothing n s e

-- the words ask for this script and this table
pub frame_drawn : (words : List Text) (told : Told) (script : Script) (table : Option Text) (columns : List NamedColumn) (workers : ℕ) (dot : Bool)
    (old new : Option (List ℕ)) (before now result : ℕ)
    → Reads words told script table → table_refusal table ≡ None → columns ≡ named_columns table → workers ≡ workers_in words
    → Draws (IsDrawing script (columns_of columns) workers dot) old new before now result
    → Draws (IsFrameDrawing words told dot) old new before now result
frame_drawn words told script table columns workers dot old new before now result read stands cs ws d =
    kind_drawn (IsDrawing script (columns_of columns) workers dot) (IsFrameDrawing words told dot)
    (λ t i. record {
      script = script;
      table = table;
      read = read;
      table_stands = stands;
      drawing = subst (λ (c : List NamedColumn). IsDrawing script (columns_of c) (workers_in words) dot t) cs
          (subst (λ w. IsDrawing script (columns_of columns) w dot t) ws i);
    })
    old new before now result d

-- words that were read are of the command that runs
pub is_of_both : {T E : Type 0} (v : T) (f : E) (a b : Bool) → (◌≡◌ {A = Result T E} (Ok v) (Err f) ↔ ((not a && b) ≡ false)) → b ≡ true
is_of_both v f a true h = refl
is_of_both v f true false h = let e = h.1 refl in absurd cc
is_of_both v f false false h = let e = h.1 refl in absurd cc

pub is_all : {T E : Type 0} (v : T) (f : E) (b : Bool) → (◌≡◌ {A = Result T E} (Ok v) (Err f) ↔ (b ≡ false)) → b ≡ true
is_all v f true h = refl
is_all v f false h = let e = h.1 refl in absurd cc
