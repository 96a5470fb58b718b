-- The bytes at the first place of a name.
use Rattle.std.proofs.Common.{◌≡◌, ℕ, suc, ◌<◌, ◌+◌, Bool, true, false, List, [], ◌∷◌, length, map, Some, None, Err, refl, ap, ◌∙◌, not, cond, bytes_eq, position, slice_get, get_or, nat_lt, option_map}
use Rattle.std.specs.List.{prefix_len}
use Rattle.std.proofs.lemmas.Option.{slice_get-map, slice_get_read}
use Rattle.job_base.specs.declared.files.FileFault.TheVariants.{Failed}
use Rattle.job_base.specs.FilesInMemory.{FilesInMemory, file_bytes, contents_at, is_failing, answer_on, answer_of}

length-map : {X Y : Type 0} (f : X → Y) (xs : List X) → length (map f xs) ≡ length xs
length-map f [] = refl
length-map f (x ∷ xs) = ap suc (length-map f xs)

prefix_len-map : {X Y : Type 0} (f : X → Y) (p : Y → Bool) (xs : List X) → prefix_len p (map f xs) ≡ prefix_len (λ x. p (f x)) xs
prefix_len-map f p [] = refl
prefix_len-map f p (x ∷ xs) = ap (λ n. cond (p (f x)) (1 + n) 0) (prefix_len-map f p xs)

pub position-map : {X Y : Type 0} (f : X → Y) (p : Y → Bool) (xs : List X) → position p (map f xs) ≡ position (λ x. p (f x)) xs
position-map f p xs =
    ap (λ n. cond (nat_lt n (length (map f xs))) (Some n) None) (prefix_len-map f (λ y. not (p y)) xs)
    ∙ ap (λ n. cond (nat_lt (prefix_len (λ x. not (p (f x))) xs) n) (Some (prefix_len (λ x. not (p (f x))) xs)) None) (length-map f xs)

-- a read whose number is named fails
pub answer_failing : (files : FilesInMemory) (name : List ℕ) (limit : ℕ) → is_failing files ≡ true → answer_of files name limit ≡ Err Failed
answer_failing files name limit e = ap (λ b. cond b (Err Failed) (answer_on (file_bytes files name) limit)) e

either : {X : Type 0} (b : Bool) (x : X) → cond b x x ≡ x
either true x = refl
either false x = refl

-- and so does one of a name that is in no place
pub answer_missing : (files : FilesInMemory) (name : List ℕ) (limit : ℕ) → position (λ n. bytes_eq n name) files.names ≡ None
    → answer_of files name limit ≡ Err Failed
answer_missing files name limit e =
    ap (λ p. cond (is_failing files) (Err Failed) (answer_on (contents_at p files.contents) limit)) e
    ∙ either (is_failing files) (Err Failed)

-- every other read gives the contents at the first place
pub answer_found : (files : FilesInMemory) (name : List ℕ) (limit : ℕ) (place : ℕ) (bytes : List ℕ) → is_failing files ≡ false
    → position (λ n. bytes_eq n name) files.names ≡ Some place → slice_get files.contents place ≡ Some bytes
    → answer_of files name limit ≡ answer_on (Some bytes) limit
answer_found files name limit place bytes e p q =
    ap (λ b. cond b (Err Failed) (answer_on (file_bytes files name) limit)) e
    ∙ (ap (λ p. answer_on (contents_at p files.contents) limit) p ∙ ap (λ c. answer_on c limit) q)

pub slice_get-map-is : {X Y : Type 0} (f : X → Y) (xs : List X) (i : ℕ) (x : X) → i < length xs → x ≡ get_or xs i x → slice_get (map f xs) i ≡ Some (f x)
slice_get-map-is f xs i x h e = slice_get-map f xs i ∙ ap (option_map f) (slice_get_read xs (length xs) i x refl h e)
