-- A line held as plain fields of any values, a byte at a time. Assumes nothing: these are definitions.
use Rattle.std.specs.Prelude.{Bool, true, false, not, cond, ◌&&◌, ◌||◌, Result, Ok, Err, ℕ, ◌+◌, ◌*◌, ◌-◌, min, leb, eqb}
use Rattle.model.specs.Limits.{most_total}
use Rattle.model.specs.Text.{space, minus, is_digit}
use Rattle.text.specs.declared.fields.Figures.{Figures}
use Rattle.text.specs.declared.fields.Fields.{Fields}
use Rattle.text.specs.declared.line.Line.{Line}
use Rattle.text.specs.declared.line.Line.TheVariants.{First, Term, Upper, Lower}
use Rattle.text.specs.declared.line.NoForm.{NoForm}

-- a number whose digits were read so far, and what is no number
abbrev pub figures_held : Bool → ℕ → Figures
figures_held m v = record { value = v; digits = true; minus = m; bad = false }

abbrev pub no_figures : Figures
no_figures = record { value = 0; digits = false; minus = false; bad = true }

-- one digit more, up to a limit
unfoldable pub figures_digit : ℕ → Figures → ℕ → Figures
figures_digit limit n b =
    cond (is_digit b && leb (10 * n.value + (b - 48)) limit) (figures_held n.minus (10 * n.value + (b - 48))) no_figures

-- one byte more: a minus stands only before the digits
unfoldable pub figures_byte : Figures → ℕ → Figures
figures_byte n b =
    cond n.bad n
    (cond (eqb b minus) (cond (n.digits || n.minus) no_figures (record { value = n.value; digits = false; minus = true; bad = false }))
    (figures_digit most_total n b))

abbrev pub fields_at : ℕ → ℕ → Figures → Figures → Fields
fields_at k f a b = record { letter = k; field = f; first = a; second = b }

-- one byte more: the first is the letter, a space goes to the next field, and field 4 is of no form
unfoldable pub fields_byte : Fields → ℕ → Fields
fields_byte s b =
    cond (eqb s.field 0) (fields_at b 1 s.first s.second)
    (cond (eqb b space) (fields_at s.letter (min (s.field + 1) 4) s.first s.second)
    (cond (eqb s.field 2) (fields_at s.letter 2 (figures_byte s.first b) s.second)
    (cond (eqb s.field 3) (fields_at s.letter 3 s.first (figures_byte s.second b))
    (fields_at s.letter 4 s.first s.second))))

-- what was read, as a whole line
abbrev formless : Result Line NoForm
formless = Err (record {})

unfoldable pub fields_first : ℕ → Figures → Result Line NoForm
fields_first k a = cond (eqb k 102 && (not a.minus && a.digits)) (Ok (First a.value)) formless

unfoldable pub fields_later : ℕ → Figures → Figures → Result Line NoForm
fields_later k a b =
    cond (not a.minus && (a.digits && b.digits))
    (cond (eqb k 116) (Ok (Term a.value b.minus b.value))
    (cond b.minus formless (cond (eqb k 117) (Ok (Upper a.value b.value)) (cond (eqb k 108) (Ok (Lower a.value b.value)) formless))))
    formless

unfoldable pub fields_line : Fields → Result Line NoForm
fields_line s =
    cond (eqb s.field 2) (fields_first s.letter s.first)
    (cond (eqb s.field 3) (fields_later s.letter s.first s.second) formless)
