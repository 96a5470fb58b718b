-- What it says of a schedule that it isn't refused.
use Rattle.std.proofs.Common.{◌≡◌, refl, Bool, true, false, ◌&&◌, ℕ, List, [], ◌∷◌, ◌++◌, map, None, Some}
use Rattle.std.specs.Prelude.{not, find, option_map, if◌then◌else◌}
use Rattle.std.specs.List.{list_any}
use Rattle.job_base.specs.declared.Refusal.TheVariants.{Disposed, StaleView, NotParallel, Alias, TempInJob}
use Rattle.frame_ast.specs.declared.kernel.Param.{Param}
use Rattle.frame_ast.specs.States.{ScriptState, is_alive, is_stale}
use Rattle.frame_ast.specs.Schedules.{Given, need_of, writes_to, is_shared, alias, first_alias}
use Rattle.frame_ast.specs.Refusals.{refused, disposed, stale, is_temp, first_given, schedule_refusal}
use Rattle.frame_ast.proofs.NameKinds.{first_none}
use Rattle.frame_ast.proofs.GivenKinds.{none_named}

-- the value of an argument by name
abbrev pub by_name : ScriptState → Param → ℕ → Given
by_name s p n = record { need = need_of s n (writes_to p.access); kind = p.kind; is_length = false }

-- its causes, of which none is there
pub record HasNoCause (s : ScriptState) (parallel : Bool) (gs : List Given) : Type 0 where
  pub alive : find (λ n. not (is_alive s (s.values n))) (map (λ g. g.need.name) gs) ≡ None
  pub fresh : find (λ n. is_stale s (s.values n)) (map (λ g. g.need.name) gs) ≡ None
  pub shared : first_given (λ g. parallel && (g.need.writes && is_shared g.kind)) gs ≡ None
  pub temp : first_given (λ g. is_temp (s.life g.need.container)) gs ≡ None
  pub alias : first_alias [] gs ≡ None

pub no_cause_given : (s : ScriptState) (parallel auto : Bool) (gs : List Given) (after : List ℕ) → schedule_refusal s parallel auto gs after ≡ None
    → HasNoCause s parallel gs
no_cause_given s parallel auto gs after none =
    let first = first_none (disposed s (map (λ g. g.need.name) gs)) _ none in
    let second = first_none (stale s (map (λ g. g.need.name) gs)) _ first.1 in
    let third = first_none (option_map (refused NotParallel) (first_given (λ g. parallel && (g.need.writes && is_shared g.kind)) gs)) _ second.1 in
    let fourth = first_none (option_map (refused TempInJob) (first_given (λ g. is_temp (s.life g.need.container)) gs)) _ third.1 in
    let fifth = first_none (option_map (refused Alias) (first_alias [] gs)) _ fourth.1 in
    record {
      alive = none_named Disposed _ first.0;
      fresh = none_named StaleView _ second.0;
      shared = none_named NotParallel _ third.0;
      temp = none_named TempInJob _ fourth.0;
      alias = none_named Alias _ fifth.0;
    }

pub no_alias_given : (s : ScriptState) (parallel auto : Bool) (gs : List Given) (after : List ℕ) → schedule_refusal s parallel auto gs after ≡ None
    → first_alias [] gs ≡ None
no_alias_given s parallel auto gs after none = (no_cause_given s parallel auto gs after none).alias

-- no value fails a test that finds none
pub none_given : (test : Given → Bool) (g : Given) (more : List Given) → first_given test (g ∷ more) ≡ None → (test g ≡ false) × (first_given test more ≡ None)
none_given test g more = elim (test g) as (λ b. (if b then Some g.need.name else first_given test more) ≡ None
    → (b ≡ false) × (first_given test more ≡ None)) [ true ↦ λ h. absurd cc | false ↦ λ h. (refl, h) ]

-- a value that is no alias of those before it
pub no_alias : (before : List Given) (g : Given) (more : List Given) → first_alias before (g ∷ more) ≡ None
    → (list_any (λ a. alias a g) before ≡ false) × (first_alias (before ++ g ∷ []) more ≡ None)
no_alias before g more =
    elim (list_any (λ a. alias a g) before) as (λ b. (if b then Some g.need.name else first_alias (before ++ g ∷ []) more) ≡ None
    → (b ≡ false) × (first_alias (before ++ g ∷ []) more ≡ None)) [ true ↦ λ h. absurd cc | false ↦ λ h. (refl, h) ]
