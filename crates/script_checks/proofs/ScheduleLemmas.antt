-- The faults of a schedule, by what its kernel's name is.
use Rattle.std.proofs.Common.{◌≡◌, ℕ, Bool, List, [], ◌∷◌, Option, Some, None, refl, sym, ◌∙◌, subst}
use Rattle.std.specs.List.{slice_get}
use Rattle.kernel_raw.specs.declared.fault.StaticFault.{StaticFault}
use Rattle.frame_ast.specs.declared.kernel.Kernel.{Kernel}
use Rattle.frame_ast.specs.declared.kernel.FaultKind.TheVariants.{UnknownName}
use Rattle.frame_ast.specs.declared.script.NewJob.{NewJob}
use Rattle.frame_ast.specs.Lists.{first_some}
use Rattle.script_checks.specs.declared.fault.OrderFault.{OrderFault}
use Rattle.script_text.specs.declared.raw.RawArg.{RawArg}
use Rattle.script_text.specs.declared.raw.RawSizes.{RawSizes}
use Rattle.script_text.specs.declared.source.Source.{Source}
use Rattle.script_names.specs.Names.{Name}
use Rattle.script_checks.specs.Faults.{scheduled_faults, kernel_in}
use Rattle.script_checks.specs.KernelIndex.{kernel_at}
use Rattle.script_checks.specs.Checks.{Refuses}
use Rattle.script_checks.specs.Spelling.{SaysJob}
use Rattle.script_checks.proofs.FaultLemmas.{first_next, first_here, first_none, refuses_next}
use Rattle.script_checks.proofs.JobLemmas.{found_at, not_found}

pub kernel_missing : (kernels : List Kernel) (text : List ℕ) → None ≡ kernel_at kernels text → None ≡ kernel_in kernels text
kernel_missing kernels text h = sym (not_found _ kernels (sym h))

pub kernel_found : (kernels : List Kernel) (text : List ℕ) (place : ℕ) (k : Kernel) → Some place ≡ kernel_at kernels text → slice_get kernels place ≡ Some k
    → Some k ≡ kernel_in kernels text
kernel_found kernels text place k h is = sym (found_at _ kernels place (sym h) ∙ is)

pub schedule_unknown : (s : Source) (names : List Name) (o : Option Kernel) (at : ℕ) (args : List RawArg) (sizes : RawSizes) (waive after : List ℕ)
    (a : Option StaticFault) →
    a ≡ None → None ≡ o → first_some (a ∷ scheduled_faults s names o at args sizes waive after) ≡ Some (record { at = at; kind = UnknownName })
schedule_unknown s names o at args sizes waive after a none is =
    subst (λ j. first_some (a ∷ scheduled_faults s names j at args sizes waive after) ≡ Some (record { at = at; kind = UnknownName })) is
    (first_next a _ none ∙ first_here _ [] _ refl)

pub schedule_refused : (s : Source) (names : List Name) (o : Option Kernel) (k : Kernel) (at : ℕ) (args : List RawArg) (sizes : RawSizes) (waive after : List ℕ)
    (a : Option StaticFault) (e : OrderFault) →
    a ≡ None → Some k ≡ o → Refuses (first_some (scheduled_faults s names (Some k) at args sizes waive after)) e →
    Refuses (first_some (a ∷ scheduled_faults s names o at args sizes waive after)) e
schedule_refused s names o k at args sizes waive after a e none is r =
    subst (λ j. Refuses (first_some (a ∷ scheduled_faults s names j at args sizes waive after)) e) is (refuses_next a _ e none r)

pub schedule_good : (s : Source) (names : List Name) (o : Option Kernel) (k : Kernel) (at : ℕ) (args : List RawArg) (sizes : RawSizes) (waive after : List ℕ)
    (a : Option StaticFault) →
    a ≡ None → Some k ≡ o → first_some (scheduled_faults s names (Some k) at args sizes waive after) ≡ None →
    first_some (a ∷ scheduled_faults s names o at args sizes waive after) ≡ None
schedule_good s names o k at args sizes waive after a none is r =
    subst (λ j. first_some (a ∷ scheduled_faults s names j at args sizes waive after) ≡ None) is (first_none a _ none r)

-- a job that is another one says what that one says
pub job_said : {s : Source} {names : List Name} {kernels : List Kernel} {auto : Bool} {handle kernel : ℕ} {args : List RawArg} {cut : RawSizes}
    {waive after : List ℕ} {job made : NewJob} → job ≡ made →
    SaysJob s names kernels auto handle kernel args cut waive after made → SaysJob s names kernels auto handle kernel args cut waive after job
job_said {s} {names} {kernels} {auto} {handle} {kernel} {args} {cut} {waive} {after} e said =
    subst (SaysJob s names kernels auto handle kernel args cut waive after) (sym e) said
