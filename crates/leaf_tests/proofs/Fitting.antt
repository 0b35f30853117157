-- What is asked before a dictionary is changed.
use Rattle.std.proofs.Common.{◌≡◌, ℕ, ◌<◌, ◌≤◌, ◌^◌, List, length, replicate, sym, ap, ◌∙◌, arith}
use Rattle.std.proofs.lemmas.List.{length-replicate}
use Rattle.machine.specs.Texts.{Text, Code}
use Rattle.machine.specs.Dictionary.{Meaning, define, bytes_in, new_dictionary}
use Rattle.dictionary.specs.declared.dictionary.Dictionary.{Dictionary}
use Rattle.dictionary.specs.declared.amounts.Needs.{Needs}
use Rattle.dictionary.specs.Meant.{dictionary_in}
use Rattle.dictionary.specs.Editing.{Room}
use Rattle.dictionary.specs.Needing.{Takes}
use Rattle.dictionary.proofs.Sizes.{bytes_used}

-- what is needed is there
pub room_fits : (code : Code) (d : Dictionary) (store items : List ℕ) (n : Text) (m : Meaning) (needs : Needs) (most size : ℕ) → store ≡ items → Takes needs (define code n m (dictionary_in d items)) → needs.names ≤ most → most ≤ d.most_rows → needs.bytes ≤ size → length store ≡ size → length store < 2 ^ 63 → Room d store (define code n m (dictionary_in d store))
room_fits code d store items n m needs most size same takes names memory bytes size_is small =
    rw same (record {
      names = omega (arith, takes.names);
      bytes = omega (arith, takes.bytes, ap length same);
    })

-- the bytes that are counted are those in use
pub counted_used : (d : Dictionary) (store : List ℕ) (n : ℕ) → d.used ≤ length store → ((any : List ℕ) → d.used ≤ length any → n ≡ bytes_in (dictionary_in d any)) → n ≡ d.used
counted_used d store n h counts = counts store h ∙ sym (bytes_used d store h)

-- a new dictionary uses none
pub new_unused : (d : Dictionary) → ((store : List ℕ) → dictionary_in d store ≡ new_dictionary) → d.used ≡ 0
unfolding new_dictionary
new_unused d new =
    let store : List ℕ = replicate d.used 0 in
    let whole : length store ≡ d.used = length-replicate d.used 0 in
    bytes_used d store (omega arith) ∙ ap bytes_in (new store)
