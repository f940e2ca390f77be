-- A line held as plain fields, read from nothing, is the line that the other forms make, and so the model's. Assumes nothing.
use mathlib.Core.Path.{◌≡◌, refl, ap, ◌∙◌}
use mathlib.Core.Bool.{Bool, true, false, cond, not, ◌&&◌}
use mathlib.Core.List.{List, [], ◌∷◌}
use Prim.Native.Nat.{ℕ, ◌+◌, ◌*◌, ◌-◌}
use lib.Dec.{leb, eqb}
use Rattle.std.specs.Prelude.{Result, Ok, Some, None}
use Rattle.model.specs.Limits.{most_total}
use Rattle.model.specs.Text.{space, minus, is_digit, line_of}
use Rattle.text.specs.declared.fields.Figures.{Figures}
use Rattle.text.specs.declared.fields.Fields.{Fields}
use Rattle.text.specs.declared.number.Number.{Number}
use Rattle.text.specs.declared.number.Number.TheVariants.{Empty, Minus, Digits, Bad}
use Rattle.text.specs.declared.line.Scan.TheVariants.{Start, Letter, OneNumber, TwoNumbers, Other, Fields as Held}
use Rattle.text.specs.declared.line.Line.{Line}
use Rattle.text.specs.declared.line.Line.TheVariants.{First}
use Rattle.text.specs.declared.line.NoForm.{NoForm}
use Rattle.text.specs.Fields.{figures_held, no_figures, figures_digit, figures_byte, fields_at, fields_byte, fields_first, fields_later, fields_line}
use Rattle.text.specs.Scans.{digits_or_bad, digits_after, digit_after, byte_of, scan_of, scan_all, no_form, first_of, later_of, line_of_scan, line_read}
use Rattle.text.proofs.Lines.{minus-no-digit, scanned}

-- a number of which nothing was read, and a line; each number as plain figures
abbrev pub none_yet : Figures
none_yet = record { value = 0; digits = false; minus = false; bad = false }

abbrev pub begin_fields : Fields
begin_fields = fields_at 0 0 none_yet none_yet

abbrev figures_of : Number → Figures
figures_of Empty = none_yet
figures_of Minus = record { value = 0; digits = false; minus = true; bad = false }
figures_of (Digits m v) = figures_held m v
figures_of Bad = no_figures

-- one byte more of a number
digits-agree : (n : Figures) (b : ℕ) → figures_digit most_total n b ≡ figures_of (digits_after n.minus n.value b)
unfolding figures_digit digits_after digit_after
digits-agree n b = go (is_digit b && leb (10 * n.value + (b - 48)) most_total)
  where
    go : (t : Bool) → cond t (figures_held n.minus (10 * n.value + (b - 48))) no_figures ≡ figures_of (digits_or_bad n.minus (cond t (Some (10 * n.value + (b - 48))) None))
    go true = refl
    go false = refl

no-digit : (m : Bool) (v b : ℕ) → eqb b minus ≡ true → digits_after m v b ≡ Bad
unfolding digits_after digit_after
no-digit m v b e = rw (minus-no-digit b e) refl

-- after a minus, or digits, another minus is no number
again : (n : Figures) (b : ℕ) → cond (eqb b minus) no_figures (figures_digit most_total n b) ≡ figures_of (digits_after n.minus n.value b)
again n b = go (eqb b minus) refl
  where
    go : (t : Bool) → eqb b minus ≡ t → cond t no_figures (figures_digit most_total n b) ≡ figures_of (digits_after n.minus n.value b)
    go true e = rw (no-digit n.minus n.value b e) refl
    go false e = digits-agree n b

byte-agree : (n : Number) (b : ℕ) → figures_byte (figures_of n) b ≡ figures_of (byte_of n b)
unfolding figures_byte byte_of
byte-agree Empty b = go (eqb b minus)
  where
    go : (t : Bool) → cond t (figures_of Minus) (figures_digit most_total none_yet b) ≡ figures_of (cond t Minus (digits_after false 0 b))
    go true = refl
    go false = digits-agree none_yet b
byte-agree Minus b = again (figures_of Minus) b
byte-agree (Digits true v) b = again (figures_held true v) b
byte-agree (Digits false v) b = again (figures_held false v) b
byte-agree Bad b = refl

-- a whole line
first-agree : (k : ℕ) (m : Number) → fields_first k (figures_of m) ≡ first_of k m
unfolding fields_first first_of
first-agree k m = go m (eqb k 102) refl
  where
    go : (n : Number) (t : Bool) → eqb k 102 ≡ t → cond (eqb k 102 && (not (figures_of n).minus && (figures_of n).digits)) (Ok (First (figures_of n).value)) no_form ≡ first_of k n
    go Empty true e = rw e refl
    go Empty false e = rw e refl
    go Minus true e = rw e refl
    go Minus false e = rw e refl
    go (Digits true v) true e = rw e refl
    go (Digits true v) false e = rw e refl
    go (Digits false v) true e = rw e refl
    go (Digits false v) false e = rw e refl
    go Bad true e = rw e refl
    go Bad false e = rw e refl

later-agree : (k : ℕ) (m n : Number) → fields_later k (figures_of m) (figures_of n) ≡ later_of k m n
unfolding fields_later later_of
later-agree k Empty n = refl
later-agree k Minus n = refl
later-agree k Bad n = refl
later-agree k (Digits true v) n = refl
later-agree k (Digits false v) Empty = refl
later-agree k (Digits false v) Minus = refl
later-agree k (Digits false v) Bad = refl
later-agree k (Digits false v) (Digits m w) = refl

-- from each field on
abbrev result : Fields → List ℕ → Result Line NoForm
result f bs = line_of_scan (scan_all (Held f) bs)

dead-agree : (bs : List ℕ) (k : ℕ) (x y : Figures) → result (fields_at k 4 x y) bs ≡ line_of_scan (scan_all Other bs)
unfolding scan_of line_of_scan fields_byte fields_line
dead-agree [] k x y = refl
dead-agree (b ∷ bs) k x y = go (eqb b space) (dead-agree bs k x y)
  where
    go : (t : Bool) → result (fields_at k 4 x y) bs ≡ line_of_scan (scan_all Other bs)
        → result (cond t (fields_at k 4 x y) (fields_at k 4 x y)) bs ≡ line_of_scan (scan_all Other bs)
    go true rest = rest
    go false rest = rest

second-agree : (bs : List ℕ) (k : ℕ) (m n : Number) → result (fields_at k 3 (figures_of m) (figures_of n)) bs ≡ line_of_scan (scan_all (TwoNumbers k m n) bs)
unfolding scan_of line_of_scan fields_byte fields_line
second-agree [] k m n = later-agree k m n
second-agree (b ∷ bs) k m n = go (eqb b space) (second-agree bs k m (byte_of n b))
  where
    go : (t : Bool) → result (fields_at k 3 (figures_of m) (figures_of (byte_of n b))) bs ≡ line_of_scan (scan_all (TwoNumbers k m (byte_of n b)) bs)
        → result (cond t (fields_at k 4 (figures_of m) (figures_of n)) (fields_at k 3 (figures_of m) (figures_byte (figures_of n) b))) bs
        ≡ line_of_scan (scan_all (cond t Other (TwoNumbers k m (byte_of n b))) bs)
    go true rest = dead-agree bs k (figures_of m) (figures_of n)
    go false rest = rw (byte-agree n b) rest

first-field-agree : (bs : List ℕ) (k : ℕ) (m : Number) → result (fields_at k 2 (figures_of m) none_yet) bs ≡ line_of_scan (scan_all (OneNumber k m) bs)
unfolding scan_of line_of_scan fields_byte fields_line
first-field-agree [] k m = first-agree k m
first-field-agree (b ∷ bs) k m = go (eqb b space) (first-field-agree bs k (byte_of m b))
  where
    go : (t : Bool) → result (fields_at k 2 (figures_of (byte_of m b)) none_yet) bs ≡ line_of_scan (scan_all (OneNumber k (byte_of m b)) bs)
        → result (cond t (fields_at k 3 (figures_of m) none_yet) (fields_at k 2 (figures_byte (figures_of m) b) none_yet)) bs
        ≡ line_of_scan (scan_all (cond t (TwoNumbers k m Empty) (OneNumber k (byte_of m b))) bs)
    go true rest = second-agree bs k m Empty
    go false rest = rw (byte-agree m b) rest

letter-agree : (bs : List ℕ) (k : ℕ) → result (fields_at k 1 none_yet none_yet) bs ≡ line_of_scan (scan_all (Letter k) bs)
unfolding scan_of line_of_scan fields_byte fields_line
letter-agree [] k = refl
letter-agree (b ∷ bs) k = go (eqb b space)
  where
    go : (t : Bool) → result (cond t (fields_at k 2 none_yet none_yet) (fields_at k 4 none_yet none_yet)) bs
        ≡ line_of_scan (scan_all (cond t (OneNumber k Empty) Other) bs)
    go true = first-field-agree bs k Empty
    go false = dead-agree bs k none_yet none_yet

pub same_line : (bs : List ℕ) → line_of_scan (scan_all (Held begin_fields) bs) ≡ line_of_scan (scan_all Start bs)
unfolding scan_of line_of_scan fields_byte fields_line
same_line [] = refl
same_line (b ∷ bs) = letter-agree bs b

-- the law of reading a line, of plain fields
pub fields-scanned : (bs : List ℕ) → line_read (line_of_scan (scan_all (Held begin_fields) bs)) ≡ line_of bs
fields-scanned bs = ap line_read (same_line bs) ∙ scanned bs
