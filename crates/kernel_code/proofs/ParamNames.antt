-- The names of the parameters, kept beside them.
use Rattle.std.proofs.Common.{◌≡◌, ℕ, List, length, Option, sym, ◌∙◌, ap}
use Rattle.std.specs.Borrow.{Bor}
use Rattle.std.specs.List.{position}
use Rattle.std.specs.Option.{option_or, option_map}
use Rattle.std.specs.Str.{bytes_eq}
use Rattle.std.proofs.lemmas.List.{length-map}
use Rattle.job_base.proofs.FirstPlace.{position-map}
use Rattle.kernel_raw.specs.declared.raw.RawKernel.{RawKernel}
use Rattle.kernel_code.specs.declared.check.names.Local.{Local}
use Rattle.kernel_code.specs.declared.check.names.Named.TheVariants.{Parameter}
use Rattle.kernel_raw.specs.RawTexts.{text_at}
use Rattle.kernel_code.specs.Scopes.{parameter, local_among, meaning_among}
use Rattle.kernel_code.specs.Known.{AreNames}

-- there are as many
pub names_len : (raw : RawKernel) (names : List (Bor (List ℕ))) → AreNames raw names → length names ≡ length raw.params.items
names_len raw names are = sym (length-map names (λ n. n.now)) ∙ ap length are ∙ length-map raw.params.items (λ p. text_at raw p.name)

-- a text stands among them at the place of its parameter
pub names_tell : (raw : RawKernel) (names : List (Bor (List ℕ))) (text : List ℕ) → AreNames raw names
    → position (λ n. bytes_eq n.now text) names ≡ parameter raw text
names_tell raw names text are =
    sym (position-map (λ n. n.now) (λ name. bytes_eq name text) names)
    ∙ ap (position (λ name. bytes_eq name text)) are
    ∙ position-map (λ p. text_at raw p.name) (λ name. bytes_eq name text) raw.params.items

-- what a text is, by them
pub meaning_told : (raw : RawKernel) (names : List (Bor (List ℕ))) (locals : List Local) (node : ℕ) (text : List ℕ) (found : Option ℕ) → AreNames raw names →
    found ≡ position (λ n. bytes_eq n.now text) names → option_or (option_map (λ x. Parameter x) found)
    (local_among raw node text 0 locals) ≡ meaning_among raw locals node text
meaning_told raw names locals node text found are is =
    ap (λ p. option_or (option_map (λ x. Parameter x) p) (local_among raw node text 0 locals)) (is ∙ names_tell raw names text are)
