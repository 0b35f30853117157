-- The table of worked cases: in ASCII, with a new processor and an empty shelf. Assumes nothing.
use Rattle.std.specs.Prelude.{◌≡◌, ℕ, false, List, [], ◌∷◌, map, codes}
use Prim.Native.String.{String}
use Rattle.std.specs.List.{AllByRecursion}
use Rattle.code.specs.Ascii.{ascii}
use Rattle.library.specs.Meaning.{Library}
use Rattle.machine.specs.declared.amounts.Amounts.{Amounts}
use Rattle.machine.specs.declared.amounts.Limits.{Limits}
use Rattle.machine.specs.Calls.{Call, expand, Areas, Reply, new, done, memory_after}

pub record Case : Type 0 where
  pub limits : Limits
  -- sources that are expanded before
  pub earlier : List String
  pub allowance : ℕ
  pub source : String
  -- what the expansion is to answer
  pub number : ℕ
  pub text : String
  pub needs : Amounts

abbrev pub needing : ℕ → ℕ → ℕ → ℕ → ℕ → Amounts
needing names roll store scan steps = record { names = names; roll = roll; store = store; scan = scan; print = 0; steps = steps }

abbrev pub ample : Limits
ample = record { names = 128; roll = 256; store = 32768; scan = 32768; print = 32768 }

abbrev pub scan_of_twelve : Limits
scan_of_twelve = record { names = 128; roll = 256; store = 32768; scan = 12; print = 32768 }

-- a first expansion, with all the steps there are
abbrev pub expanding : String → String → Amounts → Case
expanding source text needs = record { limits = ample; earlier = []; allowance = 1000000; source = source; number = 0; text = text; needs = needs }

abbrev pub stopping : ℕ → String → ℕ → Amounts → Case
stopping allowance source number needs = record { limits = ample; earlier = []; allowance = allowance; source = source; number = number; text = ""; needs = needs }

-- a first expansion that is refused in a call of that name
abbrev pub faulting : Limits → String → ℕ → String → Amounts → Case
faulting limits source number called needs = record { limits = limits; earlier = []; allowance = 1000000; source = source; number = number; text = called; needs = needs }

abbrev pub print_of_three : Limits
print_of_three = record { names = 128; roll = 256; store = 32768; scan = 32768; print = 3 }

--  names, roll, store, scan, steps
abbrev pub cases : List Case
cases =
    expanding "" "" (needing 0 0 0 0 0)
    ∷ expanding "<a;b>" "a;b" (needing 0 0 0 5 1)
    -- of `###<` the first `#` is a character
    ∷ expanding "###<NORM;abc>" "#3" (needing 0 2 0 13 11)
    ∷ expanding "@" "" (needing 0 0 0 1 1)
    ∷ expanding "a>b;" "a>b;" (needing 0 0 0 4 4)
    ∷ expanding "#<AD;2;3>" "5" (needing 0 3 0 9 9)
    ∷ expanding "##<AD;2;3>" "5" (needing 0 3 0 10 8)
    ∷ stopping 8 "#<AD;2;3>" 14 (needing 0 3 0 9 8)
    ∷ expanding "##<AD;999999999999999;1>" "0" (needing 0 3 0 24 22)
    ∷ expanding "#<DS;X;abcb>#<SC;X;b>#<X;Z>" "2aZcZ" (needing 1 3 5 27 29)
    ∷ expanding "ab#<BREAK;c>d" "abc" (needing 0 2 0 13 12)
    ∷ stopping 1000000 "<a" 16 (needing 0 0 0 2 1)
    -- a string is called from its pointer on
    ∷ expanding "#<DS;X;abc>#<CC;X>#<X>" "abc" (needing 1 3 4 22 22)
    -- a body that is replaced counts no more
    ∷ expanding "#<DS;X;abc>#<DS;X;abcd>" "" (needing 1 3 5 23 21)
    -- the end of line is printed too
    ∷ faulting print_of_three "#<PS;abc>" 38 "PS" (needing 0 2 0 9 8)
    -- the 62nd substring takes the last mark number
    ∷ faulting ample "#<DS;X;ab>#<SS;X;;;;;;;;;;;;;;;;;;;;;;;;;;;;;;;;;;;;;;;;;;;;;;;;;;;;;;;;;;;;;;a>#<SS;X;b>" 33 "SS" (needing 1 64 3 89 86)
    -- the 17th class
    ∷ faulting ample "#<DCL;a;x>#<DCL;b;x>#<DCL;c;x>#<DCL;d;x>#<DCL;e;x>#<DCL;f;x>#<DCL;g;x>#<DCL;h;x>#<DCL;i;x>#<DCL;j;x>#<DCL;k;x>#<DCL;l;x>#<DCL;m;x>#<DCL;n;x>#<DCL;o;x>#<DCL;p;x>#<DCL;q;x>" 35 "DCL" (needing 0 3 16 170 153)
    -- a call that the scan has no room for takes no created number
    ∷ record {
      limits = scan_of_twelve;
      earlier = "#<DS;L;x#>" ∷ "#<CR;L;#>" ∷ "aaaaaaa#<L>" ∷ [];
      allowance = 1000000;
      source = "#<L>";
      number = 0;
      text = "x0001";
      needs = needing 0 1 0 6 8;
    }
    ∷ []

abbrev pub whole_areas : Areas
whole_areas = record { store_area = 32768; scan_area = 32768; print_area = 32768 }

abbrev pub empty_shelf : Library
empty_shelf = record { programs = []; space = record { programs = 32; strings = 128; bytes = 8192 }; locked = false }

abbrev pub expansion_of : ℕ → String → Call
expansion_of allowance source = expand allowance (codes source) whole_areas

-- what the expansion of a case answers
unfoldable pub answered : Case → Reply
answered c =
    (done ascii c.limits (memory_after ascii c.limits (new empty_shelf) (map (expansion_of 1000000) c.earlier))
    (expansion_of c.allowance c.source)).after.replied

pub record ComesOut (c : Case) : Type 0 where
  pub number_is : (answered c).number ≡ c.number
  pub text_is : (answered c).shown ≡ codes c.text
  pub needs_are : (answered c).needs ≡ c.needs

abbrev pub EveryCaseComesOut : Type 0
EveryCaseComesOut = AllByRecursion ComesOut cases
