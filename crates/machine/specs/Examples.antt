-- The examples of docs/LANGUAGE.md: a source, and the text that comes of it, in ASCII, with a new processor and an empty shelf.
-- Written by tests/language-examples.py. Assumes nothing.
use Rattle.std.specs.Prelude.{◌≡◌, List, [], ◌∷◌, codes}
use Prim.Native.String.{String}
use Rattle.std.specs.List.{AllByRecursion}
use Rattle.machine.specs.Cases.{expanding, needing, answered}

pub record Example : Type 0 where
  pub source : String
  pub text : String

abbrev pub becomes : String → String → Example
becomes source text = record { source = source; text = text }

abbrev pub examples : List Example
examples =
    becomes "<a;b>" "a;b"
    ∷ becomes "a>b;" "a>b;"
    ∷ becomes "###<NORM;abc>" "#3"
    ∷ becomes "@@@<" "@<"
    ∷ becomes "@" ""
    ∷ becomes "<a<b>@>c>d" "a<b>@>cd"
    ∷ becomes "#<DS;X;<#<AD;1;2>>>#<X>" "3"
    ∷ becomes "#<DS;X;<#<AD;1;2>>>##<X>" "#<AD;1;2>"
    ∷ becomes "#<DS;H;#>#<H><AD;1;2>" "3"
    ∷ becomes "#<DS;X;abcb>#<SC;X;b>#<X;Z>" "2aZcZ"
    ∷ becomes "#<DS;X;abc>#<CC;X>#<X>" "abc"
    ∷ becomes "#<DS;L;x-y>#<CR;L;->#<L> #<L>" "x0001y x0002y"
    ∷ becomes "#<DS;X;abab>#<SS;X;ab;b>#<X;1>" "11"
    ∷ becomes "#<DS;X;ab>#<AP;X;cd>#<RRP;X>#<X>" "abcd"
    ∷ becomes "#<CF;PLUS;AD>#<ES;AD>#<PLUS;1;2>" "3"
    ∷ becomes "#<DS;X;abc>#<CC;X>#<CF;Y;X>#<Y>" "abc"
    ∷ becomes "#<DS;X;abcdef>#<CN;2;X>-#<SN;1;X>#<X>" "ab-def"
    ∷ becomes "#<DS;X;a,b>#<SCN;<,>;X;none>/#<X>" "a/b"
    ∷ becomes "#<DS;X;abc>#<ISC;ab;X;yes;no>#<X>" "yesc"
    ∷ becomes "#<DS;X;<a;<b;c>;d>>##<CP;X>/##<CP;X>/##<X>" "a/<b;c>/d"
    ∷ becomes "#<DS;X;a-b>#<SS;X;->#<CS;X>/#<CS;X>/#<EOS;X;end;more>" "a/b/end"
    ∷ becomes "#<DCL;D;0123456789>#<DS;X;12ab>#<CCL;D;X>-#<TCL;D;X;yes;no>" "12-no"
    ∷ becomes "#<DNCL;N;b>#<DS;X;aab>#<SCL;N;X>#<X>" "b"
    ∷ becomes "#<AD;2;3>,#<SU;2;3>,#<MU;12;-3>" "5,-1,-36"
    ∷ becomes "#<DV;-7;2>,#<DVR;-7;2>" "-3,-1"
    ∷ becomes "##<AD;999999999999999;1>" "0"
    ∷ becomes "#<EQ;01;+1;same;other>#<LT?;ab;abc;<,lower>;<,higher>>" "same,lower"
    ∷ becomes "#<DS;A;1>#<DS;B;2>#<STORE;P;A;B>#<ES;A;B>#<NAMES;P>" "A,B"
    ∷ becomes "#<DS;A;1>#<STORE;A;A>#<ES;A>#<A>#<PDF;A;+;->" "1+"
    ∷ becomes "#<DS;A;1>#<STORE;P;A>#<ES;A>#<COPY;P>#<A>" "1"
    ∷ becomes "#<GN;2;abcd>#<GN;-2;abcd>" "abcd"
    ∷ becomes "#<FLIP;abc>" "cba"
    ∷ becomes "#<TRL;A-Z>" "a-z"
    ∷ becomes "#<NORM;abc>" "3"
    ∷ becomes "ab#<BREAK;c>d" "abc"
    ∷ becomes "#<NDF;AD;yes;no>" "yes"
    ∷ []

pub record ComesTo (e : Example) : Type 0 where
  pub completes : (answered (expanding e.source e.text (needing 0 0 0 0 0))).number ≡ 0
  pub text_is : (answered (expanding e.source e.text (needing 0 0 0 0 0))).shown ≡ codes e.text

abbrev pub EveryExampleComesOut : Type 0
EveryExampleComesOut = AllByRecursion ComesTo examples
