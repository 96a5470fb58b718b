-- The names that a file makes are text.
use Rattle.std.proofs.Common.{◌≡◌, ℕ, Bool, true, false, List, [], ◌∷◌, ◌++◌, Option, Some, None, is_some, refl, sym, ◌∙◌, cond}
use Rattle.std.specs.Prelude.{All, IsUtf8}
use Rattle.std.specs.List.{slice_get}
use Rattle.std.specs.Option.{option_map}
use Rattle.std.proofs.lemmas.List.Elements.{All-push}
use Rattle.std.proofs.lemmas.Option.{slice_get-map}
use Rattle.frame_grammar.specs.declared.token_kind.TokenKind.{TokenKind}
use Rattle.frame_grammar.specs.declared.token_kind.TokenKind.TheVariants as token
use Rattle.kernel_text.specs.declared.token.Token.{Token}
use Rattle.kernel_text.specs.Tokens.{NamesAreText, token_text, kinds}
use Rattle.frame_ast.specs.declared.name_kind.NameKind.{NameKind}
use Rattle.script_text.specs.declared.source.Source.{Source}
use Rattle.script_text.specs.Raw.{OrderForm, NewArray, NewColumn, NewList, NewReference, NewMap, NewStream, Slice, View, Copy, Schedule, Combine, Dispose, DisposeAuto}
use Rattle.script_text.specs.Places.{Stands, OrderStands}
use Rattle.script_text.specs.Sources.{file_tokens, text_at}
use Rattle.script_names.specs.Names.{Name, place_in, kind_in}
use Rattle.script_checks.specs.Faults.{made_by, made_alike}
use Rattle.script_checks.specs.Spelling.{names_with, names_after}

-- a name that is made stands at a token that is one
abbrev MadeStands : List TokenKind → Option (ℕ × NameKind) → Type 0
MadeStands ks None = Unit {0}
MadeStands ks (Some m) = Stands ks token.Name m.0

alike : (ks : List TokenKind) (name : ℕ) (k : Option NameKind) → Stands ks token.Name name → MadeStands ks (made_alike name k)
alike ks name None h = tt
alike ks name (Some k) h = h

made_stands : (s : Source) (names : List Name) (form : OrderForm) → OrderStands (kinds (file_tokens s)) form
    → MadeStands (kinds (file_tokens s)) (made_by s names form)
made_stands s names (NewArray name len life values) h = h.0
made_stands s names (NewColumn name column life) h = h.0
made_stands s names (NewList name cap life) h = h.0
made_stands s names (NewReference name life value) h = h.0
made_stands s names (NewMap name cap life) h = h.0
made_stands s names (NewStream name count room life) h = h.0
made_stands s names (Slice name of start len) h = h.0
made_stands s names (View name of) h = h.0
made_stands s names (Copy name of) h = alike (kinds (file_tokens s)) name (kind_in names (text_at s of)) h.0
made_stands s names (Schedule auto handle kernel args cut waive after) h = h.0
made_stands s names (Combine name of) h = h.0
made_stands s names (Dispose name after None) h = tt
made_stands s names (Dispose name after (Some handle)) h = h.2
made_stands s names (DisposeAuto name handle) h = h.1
made_stands s names _ h = tt

-- the text of a token that is a name
token_is_text : (s : Source) (at : ℕ) → NamesAreText s.bytes.now (file_tokens s) → (o : Option Token) → slice_get (file_tokens s) at ≡ o
    → option_map (λ t. t.kind) o ≡ Some token.Name → IsUtf8 (token_text s.bytes.now o)
token_is_text s at texts None is h = cc
token_is_text s at texts (Some t) is h =
    let name : t.kind ≡ token.Name = cc in
    texts at t is name

name_is_text : (s : Source) (at : ℕ) → NamesAreText s.bytes.now (file_tokens s) → Stands (kinds (file_tokens s)) token.Name at → IsUtf8 (text_at s at)
name_is_text s at texts h = token_is_text s at texts (slice_get (file_tokens s) at) refl (sym (slice_get-map (λ t. t.kind) (file_tokens s) at) ∙ h)

with_text : (names : List Name) (text : List ℕ) (kind : NameKind) (b : Bool) → All (λ n. IsUtf8 n.text) names → IsUtf8 text →
    All (λ n. IsUtf8 n.text) (cond b names (names ++ record { text = text; kind = kind } ∷ []))
with_text names text kind true all h = all
with_text names text kind false all h = All-push (λ n. IsUtf8 n.text) names (record { text = text; kind = kind }) all h

all_with : (s : Source) (names : List Name) (m : Option (ℕ × NameKind)) → NamesAreText s.bytes.now (file_tokens s) → MadeStands (kinds (file_tokens s)) m →
    All (λ n. IsUtf8 n.text) names → All (λ n. IsUtf8 n.text) (names_with s names m)
all_with s names None texts h all = all
all_with s names (Some m) texts h all = with_text names (text_at s m.0) m.1 (is_some (place_in names (text_at s m.0))) all (name_is_text s m.0 texts h)

pub names_are_text : (s : Source) (names : List Name) (form : OrderForm) → NamesAreText s.bytes.now (file_tokens s) → OrderStands (kinds (file_tokens s)) form →
    All (λ n. IsUtf8 n.text) names → All (λ n. IsUtf8 n.text) (names_after s names form)
names_are_text s names form texts stands all = all_with s names (made_by s names form) texts (made_stands s names form stands) all
