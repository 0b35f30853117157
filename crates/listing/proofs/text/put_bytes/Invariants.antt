use Rattle.std.proofs.Common.{◌≡◌, ◌*◌, ◌≤◌, take}
use Rattle.std.specs.Str.{IsAscii}
use Rattle.listing.specs.Listing.{shown_text}
use Rattle.listing.proofs.text.put_bytes.Given as goal

abbrev pub invariant-loop-byte : goal.invariant-loop-byte
invariant-loop-byte g l = record {
  within : l.end ≤ 5 * l.byte-index;
  shown : take l.end l.run ≡ shown_text g.C.Code.meaning g.C.Glyphs.glyph (take l.byte-index l.bytes);
  ascii : IsAscii (take l.end l.run);
}
