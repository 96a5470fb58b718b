-- What was said since a frame began.
use Rattle.std.proofs.Common.{◌≡◌, ◌≢◌, refl, sym, ap, ◌∙◌, subst, ℕ, Bool, false, List, [], ◌∷◌, ◌++◌, length, take}
use Rattle.frame_ast.specs.declared.script.Script.{Script}
use Rattle.frame_ast.specs.Orders.{Table, setting}
use Rattle.frame_ast.specs.Scripts.{final}
use Rattle.plan_run.specs.Says.{SaysTo, said_to}
use Rattle.plan_run.proofs.Saying.{says_after}
use Rattle.plan_state.specs.Steps.{state_at}
use Rattle.frame_top.specs.Answers.{SaidTo, Whole, Part}
use Rattle.frame_top.specs.Refusals.{Answer}
use Rattle.frame_top.specs.declared.status.TheConstants.{UNWRITTEN}
use Rattle.frame_host.specs.declared.text.KeptText.{KeptText}
use Rattle.frame_host.specs.Frames.{WasSaid, faults_of, taken_of}

-- lines were said, and then others
pub said_on : (before : KeptText) (waited : List ℕ) (text : KeptText) (waits : List ℕ) (failed : Bool) (lines more : List ℕ)
    → WasSaid before waited false lines → SaysTo taken_of faults_of before waited false text waits failed more → WasSaid text waits failed (lines ++ more)
said_on before waited text waits failed lines more was next = record {
  first = was.first;
  none = was.none;
  said = says_after (said_to taken_of faults_of was.first [] false) (said_to taken_of faults_of before waited false)
      (said_to taken_of faults_of text waits failed) lines more was.said next;
}

-- the same, where nothing was said since
pub said_still : (text : KeptText) (waited waits : List ℕ) (lines : List ℕ) → waits ≡ waited → WasSaid text waited false lines → WasSaid text waits false lines
said_still text waited waits lines same was = subst (λ w. WasSaid text w false lines) (sym same) was

pub said_as : (text : KeptText) (waits : List ℕ) (lines more : List ℕ) → more ≡ lines → WasSaid text waits false lines → WasSaid text waits false more
said_as text waits lines more same was = subst (λ l. WasSaid text waits false l) (sym same) was

-- a text that began empty is that of the answer, unless it wasn't written
pub given : (first text : KeptText) (a : Answer) (result : ℕ) → first.bytes.items ≡ [] → result ≢ UNWRITTEN → SaidTo taken_of faults_of first text a result
    → (result ≡ a.status) × (text.bytes.items ≡ a.text)
given first text a result none other (Whole is app same) = (is, app ∙ ap (λ l. l ++ a.text) none)
given first text a result none other (Part is n app rose) = absurd (other is)

take_whole : {A : Type 0} (xs : List A) → take (length xs) xs ≡ xs
take_whole [] = refl
take_whole (x ∷ xs) = ap (λ ys. x ∷ ys) (take_whole xs)

-- after all statements a script is at its end
pub at_end : (script : Script) (table : Table) (to : ℕ) → to ≡ length script.statements.items
    → state_at script table to ≡ final (setting script table) script.statements.items
at_end script table to last = ap (state_at script table) last ∙ ap (λ xs. final (setting script table) xs) (take_whole script.statements.items)
