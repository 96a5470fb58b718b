-- The names of a kernel are text, as those of its file are.
use Rattle.std.proofs.Common.{◌∙◌, ◌≡◌, ℕ, zero, suc, ◌+◌, ◌<◌, ◌^◌, List, [], ◌∷◌, ◌++◌, length, drop, Option, Some, None, option_map, slice_get, refl, sym, ap, subst}
use Rattle.std.specs.Prelude.{IsUtf8}
use Rattle.std.proofs.lemmas.Option.{slice_get-map}
use Rattle.frame_grammar.specs.declared.token_kind.TokenKind.TheVariants.{Name}
use Rattle.frame_grammar.specs.declared.symbols.Action.TheVariants as action
use Rattle.frame_grammar.specs.declared.symbols.Event.{Event}
use Rattle.kernel_text.specs.declared.token.Token.{Token}
use Rattle.kernel_raw.specs.declared.raw.RawParam.{RawParam}
use Rattle.kernel_raw.specs.declared.raw.RawKernel.{RawKernel}
use Rattle.kernel_text.specs.Tokens.{token_text, kinds, NamesAreText}
use Rattle.kernel_raw.specs.RawTexts.{raw_tokens}
use Rattle.kernel_raw.specs.RawEvents.{on, SpellsParams, SpellsRaw, IsWithin, opening}
use Rattle.kernel_raw.specs.RawEvents as raw
use Rattle.kernel_raw.specs.Legible.{NamesStand, IsLegible, IsParsed}
use Rattle.kernel_raw.proofs.Derived.Names.{among_others}

pub names_are_text-drop : (source : List ℕ) (n : ℕ) (tokens : List Token) → NamesAreText source tokens → NamesAreText source (drop n tokens)
names_are_text-drop source n tokens are k token is named = let at = among_others n tokens k token is in are at.0 token at.1 named

text_is : (source : List ℕ) (tokens : List Token) (place : ℕ) (found : Option Token) → NamesAreText source tokens → slice_get tokens place ≡ found
    → option_map (λ token. token.kind) found ≡ Some Name →
    IsUtf8 (token_text source found)
text_is source tokens place None are is named = cc
text_is source tokens place (Some token) are is named = let kind : token.kind ≡ Name = cc in are place token is kind

-- EVENTS

-- the events tell of a name at this place
abbrev Tells : List Event → ℕ → Type 0
Tells events place = (k : ℕ) × (slice_get events k ≡ Some (on action.Name place))

tells_behind : (front events : List Event) (place : ℕ) → Tells events place → Tells (front ++ events) place
tells_behind [] events place t = t
tells_behind (e ∷ front) events place t = let u = tells_behind front events place t in (suc u.0, u.1)

tells_before : (events behind : List Event) (place : ℕ) → Tells events place → Tells (events ++ behind) place
tells_before [] behind place t = let none = t.1 in cc
tells_before (e ∷ events) behind place (zero, is) = (0, is)
tells_before (e ∷ events) behind place (suc k, is) = let u = tells_before events behind place (k, is) in (suc u.0, u.1)

params_told : {events : List Event} {params : List RawParam} → SpellsParams events params → (k : ℕ) (p : RawParam) → slice_get params k ≡ Some p
    → Tells events p.name
params_told (raw.none is) k p e = cc
params_told {events} (raw.param q ks rest {p = x} d r is) zero p e =
    let same : x ≡ p = cc in
    subst (λ z. Tells events z.name) same (0, ap (λ es. slice_get es 0) is)
params_told (raw.param q ks rest {p = x} d r is) (suc k) p e =
    subst (λ es. Tells es p.name) (sym is) (tells_behind (on action.Name x.name ∷ ks) (on action.Parameter q ∷ rest) p.name
    (tells_behind (on action.Parameter q ∷ []) rest p.name (params_told r k p e)))

text_told : (source : List ℕ) (tokens : List Token) (events : List Event) (place : ℕ) → NamesAreText source tokens → NamesStand (kinds tokens) events
    → Tells events place →
    IsUtf8 (token_text source (slice_get tokens place))
text_told source tokens events place are stand t =
    text_is source tokens place (slice_get tokens place) are refl (sym (slice_get-map (λ (token : Token). token.kind) tokens place)
    ∙ stand t.0 (on action.Name place) t.1 refl)

-- The names of a kernel that the events spell are text.
pub legible : (source : List ℕ) (tokens : List Token) (events : List Event) (raw : RawKernel) → raw.source.now ≡ source → raw_tokens raw ≡ tokens
    → SpellsRaw events raw →
    NamesAreText source tokens → NamesStand (kinds tokens) events → IsLegible raw
legible source tokens events raw source_is tokens_are s are stand =
    let text : (place : ℕ) → Tells events place → IsUtf8 (token_text raw.source.now (slice_get (raw_tokens raw) place)) =
    λ place t. subst (λ xs. IsUtf8 (token_text xs (slice_get (raw_tokens raw) place))) (sym source_is)
    (subst (λ ts. IsUtf8 (token_text source (slice_get ts place))) (sym tokens_are) (text_told source tokens events place are stand t)) in
    let front = on (opening raw.parallel) s.at ∷ on action.Name raw.name ∷ s.params in
    record {
      name = text raw.name (1, ap (λ es. slice_get es 1) s.spelled);
      params = λ k p is. text p.name
          (subst (λ es. Tells es p.name) (sym s.spelled)
          (tells_before (front ++ on action.OpenBody s.body_at ∷ s.statements) (on action.CloseKernel s.end_at ∷ []) p.name
          (tells_before front (on action.OpenBody s.body_at ∷ s.statements) p.name
          (tells_behind (on (opening raw.parallel) s.at ∷ on action.Name raw.name ∷ []) s.params p.name (params_told s.with_params k p is)))));
    }

pub parsed : (source : List ℕ) (tokens : List Token) (events : List Event) (raw : RawKernel) → raw.source.now ≡ source → raw_tokens raw ≡ tokens
    → SpellsRaw events raw → IsWithin raw →
    NamesAreText source tokens → NamesStand (kinds tokens) events → raw.line + length raw.marks.now < 2 ^ 32 → IsParsed raw
parsed source tokens events raw source_is tokens_are spells within are stand few = record {
  is_raw = record { events = events; spells = spells; within = within };
  legible = legible source tokens events raw source_is tokens_are spells are stand;
  few = few;
}
