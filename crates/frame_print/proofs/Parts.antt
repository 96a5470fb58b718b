-- The lines of short parts, as they are written.
use Rattle.std.proofs.Common.{◌≡◌, ℕ, ℤ, List, [], ◌++◌, Option, Result, ap, subst, ◌∙◌, append_assoc, append-nil}
use Rattle.std.specs.Prelude.{codes, decimal}
use Rattle.std.specs.Fmt.{signed_decimal}
use Rattle.job_base.specs.Texts.{Writes}
use Rattle.job_base.specs.declared.JobId.{JobId}
use Rattle.job_base.specs.declared.Refusal.{Refusal}
use Rattle.job_base.specs.declared.Refusal.TheVariants.{Pending, Busy}
use Rattle.frame_ast.specs.declared.kernel.FaultKind.{FaultKind}
use Rattle.frame_ast.specs.Answers.{fault_text, script_refused_line}
use Rattle.frame_ast.specs.Texts.{pair_text, overdue_line, refusal_text, refused_line}

pub writes_as : {T E : Type 0} (old new : Option (List ℕ)) (r : Result T E) (t text : List ℕ) → t ≡ text → Writes old new r t → Writes old new r text
writes_as old new r t text e p = subst (λ l. Writes old new r l) e p

pub overdue_is : (line : ℕ) (name : List ℕ) (made : ℕ)
    → (((codes "overdue " ++ decimal line) ++ codes ": ") ++ name) ++ (codes " made on line " ++ (decimal made ++ codes "\n")) ≡ overdue_line line name made
overdue_is line name made = simp append_assoc

-- ---- numbers

pub pair_kept : (w comma k v w1 w2 w3 w4 : List ℕ) (pair : ℤ × ℤ) → w1 ≡ w ++ comma → w2 ≡ w1 ++ k → w3 ≡ w2 ++ codes ": " → w4 ≡ w3 ++ v
    → k ≡ signed_decimal pair.0 → v ≡ signed_decimal pair.1 → w4 ≡ w ++ (comma ++ pair_text pair)
pair_kept w comma k v w1 w2 w3 w4 pair p q r s ks vs =
    s
    ∙ ap (λ l. l ++ v) (r ∙ ap (λ l. l ++ codes ": ") (q ∙ ap (λ l. l ++ k) p ∙ append_assoc w comma k) ∙ append_assoc w (comma ++ k) (codes ": "))
    ∙ append_assoc w ((comma ++ k) ++ codes ": ") v
    ∙ ap (λ l. w ++ l) (ap (λ l. l ++ v) (append_assoc comma k (codes ": ")) ∙ append_assoc comma (k ++ codes ": ") v)
    ∙ ap (λ l. w ++ (comma ++ ((l ++ codes ": ") ++ v))) ks
    ∙ ap (λ l. w ++ (comma ++ ((signed_decimal pair.0 ++ codes ": ") ++ l))) vs

-- ---- refusals

pub pending_is : (job : JobId) (name : List ℕ)
    → codes ": pending job " ++ (decimal job.0 ++ (codes " on " ++ (name ++ codes "\n"))) ≡ codes ": " ++ (refusal_text (Pending job) name ++ codes "\n")
pending_is job name = simp append_assoc

pub busy_is : (job : JobId) (name : List ℕ)
    → codes ": busy job " ++ (decimal job.0 ++ codes "\n") ≡ codes ": " ++ (refusal_text (Busy job) name ++ codes "\n")
busy_is job name = simp append_assoc

pub refused_is : (line : ℕ) (refusal : Refusal) (name : List ℕ)
    → (codes "refused " ++ decimal line) ++ (codes ": " ++ (refusal_text refusal name ++ codes "\n")) ≡ refused_line line refusal name
refused_is line refusal name = simp append_assoc

pub script_refused_is : (x y : List ℕ) (line : ℕ) (kind : FaultKind) → x ≡ decimal line → y ≡ fault_text kind
    → codes "script refused line " ++ (x ++ (codes ": " ++ (y ++ (codes "\n" ++ [])))) ≡ script_refused_line line kind
script_refused_is x y line kind p q = simp (p, q, append_assoc)
