-- The table of the 46 built-in functions: their names, and the smallest numbers of parameters. Assumes nothing.
use Rattle.std.specs.Prelude.{ℕ, List, [], ◌∷◌, ◌++◌, map, codes, Option}
use Rattle.std.specs.List.{find}
use Rattle.std.specs.Str.{bytes_eq}
use Rattle.machine.specs.declared.built_in.BuiltIn.{BuiltIn}
use Rattle.machine.specs.declared.built_in.BuiltIn.TheVariants as group
use Rattle.machine.specs.declared.built_in.DictionaryFunction.TheVariants.{Ds, Ap, Es, Cf, Ss, Sc, Cr}
use Rattle.machine.specs.declared.built_in.SelectionFunction.TheVariants.{Cc, Cn, Sn, Isc, Scn, Cp, Cs, Rrp, Eos}
use Rattle.machine.specs.declared.built_in.TextFunction.TheVariants.{Gn, Flip, Trl, Norm}
use Rattle.machine.specs.declared.built_in.ClassFunction.TheVariants.{Dcl, Dncl, Ecl, Ccl, Scl, Tcl}
use Rattle.machine.specs.declared.built_in.ArithmeticFunction.TheVariants.{Ad, Su, Mu, Dv, Dvr, Abs}
use Rattle.machine.specs.declared.built_in.ComparisonFunction.TheVariants.{Eq, Gt, Lt, EqText, GtText, LtText}
use Rattle.machine.specs.declared.built_in.LibraryFunction.TheVariants.{Store, Delete, Copy, Names, Pdf}
use Rattle.machine.specs.declared.built_in.OtherFunction.TheVariants.{Ndf, Ps, Break}
use Rattle.machine.specs.Texts.{Text, Code, spelled}

-- the letters of its name
abbrev pub letters : BuiltIn → List ℕ
letters (group.Dictionary Ds) = codes "DS"
letters (group.Dictionary Ap) = codes "AP"
letters (group.Dictionary Es) = codes "ES"
letters (group.Dictionary Cf) = codes "CF"
letters (group.Dictionary Ss) = codes "SS"
letters (group.Dictionary Sc) = codes "SC"
letters (group.Dictionary Cr) = codes "CR"
letters (group.Selection Cc) = codes "CC"
letters (group.Selection Cn) = codes "CN"
letters (group.Selection Sn) = codes "SN"
letters (group.Selection Isc) = codes "ISC"
letters (group.Selection Scn) = codes "SCN"
letters (group.Selection Cp) = codes "CP"
letters (group.Selection Cs) = codes "CS"
letters (group.Selection Rrp) = codes "RRP"
letters (group.Selection Eos) = codes "EOS"
letters (group.Text Gn) = codes "GN"
letters (group.Text Flip) = codes "FLIP"
letters (group.Text Trl) = codes "TRL"
letters (group.Text Norm) = codes "NORM"
letters (group.Class Dcl) = codes "DCL"
letters (group.Class Dncl) = codes "DNCL"
letters (group.Class Ecl) = codes "ECL"
letters (group.Class Ccl) = codes "CCL"
letters (group.Class Scl) = codes "SCL"
letters (group.Class Tcl) = codes "TCL"
letters (group.Arithmetic Ad) = codes "AD"
letters (group.Arithmetic Su) = codes "SU"
letters (group.Arithmetic Mu) = codes "MU"
letters (group.Arithmetic Dv) = codes "DV"
letters (group.Arithmetic Dvr) = codes "DVR"
letters (group.Arithmetic Abs) = codes "ABS"
letters (group.Comparison Eq) = codes "EQ"
letters (group.Comparison Gt) = codes "GT"
letters (group.Comparison Lt) = codes "LT"
letters (group.Comparison EqText) = codes "EQ?"
letters (group.Comparison GtText) = codes "GT?"
letters (group.Comparison LtText) = codes "LT?"
letters (group.Library Store) = codes "STORE"
letters (group.Library Delete) = codes "DELETE"
letters (group.Library Copy) = codes "COPY"
letters (group.Library Names) = codes "NAMES"
letters (group.Library Pdf) = codes "PDF"
letters (group.Other Ndf) = codes "NDF"
letters (group.Other Ps) = codes "PS"
letters (group.Other Break) = codes "BREAK"

-- the smallest number of parameters
abbrev pub least : BuiltIn → ℕ
least (group.Dictionary Ds) = 2
least (group.Dictionary Ap) = 2
least (group.Dictionary Es) = 0
least (group.Dictionary Cf) = 2
least (group.Dictionary Ss) = 1
least (group.Dictionary Sc) = 1
least (group.Dictionary Cr) = 2
least (group.Selection Cc) = 1
least (group.Selection Cn) = 2
least (group.Selection Sn) = 2
least (group.Selection Isc) = 4
least (group.Selection Scn) = 3
least (group.Selection Cp) = 1
least (group.Selection Cs) = 1
least (group.Selection Rrp) = 1
least (group.Selection Eos) = 3
least (group.Text Gn) = 2
least (group.Text Flip) = 1
least (group.Text Trl) = 1
least (group.Text Norm) = 1
least (group.Class Dcl) = 2
least (group.Class Dncl) = 2
least (group.Class Ecl) = 0
least (group.Class Ccl) = 2
least (group.Class Scl) = 2
least (group.Class Tcl) = 4
least (group.Arithmetic Ad) = 2
least (group.Arithmetic Su) = 2
least (group.Arithmetic Mu) = 2
least (group.Arithmetic Dv) = 2
least (group.Arithmetic Dvr) = 2
least (group.Arithmetic Abs) = 1
least (group.Comparison Eq) = 4
least (group.Comparison Gt) = 4
least (group.Comparison Lt) = 4
least (group.Comparison EqText) = 4
least (group.Comparison GtText) = 4
least (group.Comparison LtText) = 4
least (group.Library Store) = 2
least (group.Library Delete) = 1
least (group.Library Copy) = 1
least (group.Library Names) = 1
least (group.Library Pdf) = 3
least (group.Other Ndf) = 3
least (group.Other Ps) = 1
least (group.Other Break) = 0

abbrev pub all_built_ins : List BuiltIn
all_built_ins =
    map group.Dictionary (Ds ∷ Ap ∷ Es ∷ Cf ∷ Ss ∷ Sc ∷ Cr ∷ [])
    ++ map group.Selection (Cc ∷ Cn ∷ Sn ∷ Isc ∷ Scn ∷ Cp ∷ Cs ∷ Rrp ∷ Eos ∷ [])
    ++ map group.Text (Gn ∷ Flip ∷ Trl ∷ Norm ∷ [])
    ++ map group.Class (Dcl ∷ Dncl ∷ Ecl ∷ Ccl ∷ Scl ∷ Tcl ∷ [])
    ++ map group.Arithmetic (Ad ∷ Su ∷ Mu ∷ Dv ∷ Dvr ∷ Abs ∷ [])
    ++ map group.Comparison (Eq ∷ Gt ∷ Lt ∷ EqText ∷ GtText ∷ LtText ∷ [])
    ++ map group.Library (Store ∷ Delete ∷ Copy ∷ Names ∷ Pdf ∷ [])
    ++ map group.Other (Ndf ∷ Ps ∷ Break ∷ [])

-- its name in the bytes of a code
abbrev pub name_of : Code → BuiltIn → Text
name_of code f = spelled code (letters f)

abbrev pub first_named : Code → Text → List BuiltIn → Option BuiltIn
first_named code n fs = find (λ f. bytes_eq (name_of code f) n) fs

-- the built-in function of a name
abbrev pub built_in_named : Code → Text → Option BuiltIn
built_in_named code n = first_named code n all_built_ins
