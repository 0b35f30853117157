-- The room that a string with more bytes needs.
use Rattle.std.proofs.Common.{ℕ, ◌+◌, ◌≤◌, List, length, arith, length-append}
use Rattle.machine.specs.Texts.{Text}
use Rattle.machine.specs.Dictionary.{string, change}
use Rattle.machine.specs.Strings.{appended}
use Rattle.dictionary.specs.declared.dictionary.Dictionary.{Dictionary}
use Rattle.dictionary.specs.declared.string_place.StringPlace.{StringPlace}
use Rattle.dictionary.specs.Meant.{dictionary_in}
use Rattle.dictionary.specs.Finding.{Standing}
use Rattle.dictionary.specs.Editing.{Room}
use Rattle.dictionary.specs.Strings.{place_of, string_in}
use Rattle.dictionary.proofs.Said.{body_length}
use Rattle.dictionary.proofs.Taken.{row_taken}

pub more_fits : (d : Dictionary) (store : List ℕ) (name more : Text) (s : StringPlace) → d.used ≤ length store → Standing d store name (place_of s) → Room d store (change name (appended more (string_in s store)) (dictionary_in d store)) → d.used + length more ≤ length store
more_fits d store name more s whole stands room =
    let t = string_in s store in
    let taken = row_taken d store name (place_of s) (string (appended more t)) whole stands in
    omega (arith, taken.bytes, room.bytes, length-append t.body more, body_length d store s whole stands.at)
