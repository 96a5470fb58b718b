-- What is known of the names of a kernel before a node.
use Rattle.std.specs.Prelude.{◌≡◌, ℕ, ◌≤◌, nat_le, nat_lt, ◌==◌, ◌&&◌, not, is_none, Bool, true, false, if◌then◌else◌, List, [], ◌∷◌, ◌+◌, length, map, take, Option, Some, None}
use Rattle.std.specs.List.{list_any}
use Rattle.std.specs.Borrow.{Bor}
use Rattle.job_base.specs.declared.limits.TheConstants.{MOST_LOCALS}
use Rattle.kernel_raw.specs.declared.raw.RawForm.{RawForm}
use Rattle.kernel_raw.specs.declared.raw.RawForm.TheVariants as form
use Rattle.kernel_raw.specs.declared.raw.RawNode.{RawNode}
use Rattle.kernel_raw.specs.declared.raw.RawKernel.{RawKernel}
use Rattle.kernel_code.specs.declared.check.names.Named.{Named}
use Rattle.kernel_code.specs.declared.check.names.Named.TheVariants.{Parameter, Variable, LoopVariable}
use Rattle.kernel_code.specs.declared.check.names.Local.{Local}
use Rattle.kernel_code.specs.declared.check.names.Meaning.{Meaning}
use Rattle.kernel_code.specs.declared.check.streams.StreamBlock.{StreamBlock}
use Rattle.kernel_raw.specs.RawTexts.{text_at}
use Rattle.kernel_code.specs.Scopes.{declares, local_of, as_local, locals_before, parameter, is_begin, is_inside, is_number, begun_among, meaning_of}
use Rattle.kernel_code.specs.StaticFaults.{used_fault, token_fault, size_fault, name_fault}

-- whether node i stands in a block of stream x
abbrev pub is_in : ℕ → ℕ → StreamBlock → Bool
is_in x i b = (nat_le b.start i && nat_lt i b.end) && x == b.stream

abbrev pub stands_in : ℕ → ℕ → List StreamBlock → Bool
stands_in x i blocks = list_any (is_in x i) blocks

-- these blocks tell for each stream whether node i, or one behind it, stands in a `begin` block that began before node
-- i
pub record AreBegun (raw : RawKernel) (i : ℕ) (blocks : List StreamBlock) : Type 0 where
  pub tell : (x j : ℕ) → i ≤ j → begun_among raw x j 0 (take i raw.nodes.items) ≡ stands_in x j blocks

-- these are the names of the parameters
abbrev pub AreNames : RawKernel → List (Bor (List ℕ)) → Type 0
AreNames raw names = map (λ n. n.now) names ≡ map (λ p. text_at raw p.name) raw.params.items

-- forms with a name
abbrev pub has_name : RawForm → Bool
has_name form.Number = false
has_name form.Index = false
has_name form.Unary = false
has_name form.Binary = false
has_name form.If = false
has_name form.IfElse = false
has_name form.While = false
has_name _ = true

-- forms that begin with the local that an effect answers to
abbrev pub has_answer : RawForm → Bool
has_answer form.SetTryAdd = true
has_answer form.SetRemove = true
has_answer _ = false

abbrev pub meaning_if : Bool → RawKernel → (i at : ℕ) → Option Named
meaning_if true raw i at = meaning_of raw i (text_at raw at)
meaning_if false raw i at = None

-- what the token of node i is, where it is a name before an effect
abbrev pub answer_named : RawKernel → ℕ → RawNode → Option Named
answer_named raw i node = meaning_if (has_answer node.form) raw i node.at

-- what the name of node i is, where it has one
abbrev pub name_named : RawKernel → ℕ → RawNode → Option Named
name_named raw i node = meaning_if (has_name node.form) raw i node.name

-- forms of a name that they only use: they neither declare nor answer to it, and no block tells whether it fits
abbrev pub only_uses : RawForm → Bool
only_uses form.Name = true
only_uses form.Element = true
only_uses form.Length = true
only_uses form.Has = true
only_uses form.Count = true
only_uses form.Item = true
only_uses form.SetName = true
only_uses form.SetPlace = true
only_uses form.AddItem = true
only_uses form.AddPair = true
only_uses form.Remove = true
only_uses form.Clear = true
only_uses _ = false

-- what a name is at node i that only uses it, if nothing is wrong with it there
abbrev pub used_name : RawKernel → ℕ → RawForm → List ℕ → Option (Option Named)
used_name raw i f text = if is_none (used_fault raw i f text) then Some (meaning_of raw i text) else None

-- what the name of node i is, if it has none or only uses it, and if nothing is wrong with its token and its name
abbrev pub plain_name : RawKernel → ℕ → RawNode → Option (Option Named)
plain_name raw i node =
    if not (has_name node.form) then (if is_none (token_fault raw i node.at node.form) then Some None else None)
    else (if only_uses node.form then used_name raw i node.form (text_at raw node.name) else None)

-- what a node declares or means by its name
abbrev pub name_stored : RawKernel → ℕ → RawNode → Option Named
name_stored raw i node =
    if declares node.form
    then Some (as_local (local_of raw.nodes.items i node) (length (locals_before raw.nodes.items i)))
    else name_named raw i node

abbrev pub meaning_at : RawKernel → ℕ → RawNode → Meaning
meaning_at raw i node = record { answer = answer_named raw i node; name = name_stored raw i node }

abbrev pub meanings_from : RawKernel → ℕ → List RawNode → List Meaning
meanings_from raw i [] = []
meanings_from raw i (node ∷ more) = meaning_at raw i node ∷ meanings_from raw (i + 1) more

-- the block of node b, if it is a `begin` of a parameter
abbrev pub is_block : RawKernel → (x i b : ℕ) → RawNode → Bool
is_block raw x i b node =
    is_begin node.form && (is_inside i b node && is_number x (parameter raw (text_at raw node.name)))

-- what is kept when the nodes before node i have been looked at
pub record IsKnown (raw : RawKernel) (i : ℕ) (ls : List Local) (bs : List StreamBlock)
    (ms : List Meaning) : Type 0 where
  pub locals : ls ≡ locals_before raw.nodes.items i
  pub few : length ls ≤ MOST_LOCALS
  pub blocks : AreBegun raw i bs
  pub meanings : ms ≡ meanings_from raw 0 (take i raw.nodes.items)

-- nothing is wrong with a node
pub record IsFaultless (raw : RawKernel) (i : ℕ) (node : RawNode) : Type 0 where
  pub token : token_fault raw i node.at node.form ≡ None
  pub size : size_fault raw i ≡ None
  pub name : name_fault raw i node.name node.form ≡ None

-- the number of what a name stands for
abbrev pub number_named : Option Named → ℕ
number_named None = 0
number_named (Some (Parameter x)) = x
number_named (Some (Variable k)) = k
number_named (Some (LoopVariable k)) = k
