-- What is written in pieces: tokens, one behind the other, into buffers of any size. Assumes nothing: these are definitions.
use Rattle.std.specs.Prelude.{◌≡◌, Option, Some, None, IsSome, List, [], ◌++◌, ℕ, suc, ◌≤◌, ◌<◌, length, take, drop}

-- what is still to be written, and how many turns are left at most: nothing at the end, and there alone
abbrev pub rest_at : {A : Type 0} → (A → List ℕ) → Option A → List ℕ
rest_at rest None = []
rest_at rest (Some part) = rest part

abbrev pub left_at : {A : Type 0} → (A → ℕ) → Option A → ℕ
left_at left None = 0
left_at left (Some part) = suc (left part)

-- bytes put from a place on: they and what is to be written after them are what was to be written, and no byte behind them has changed
pub record Put (rest rest' : List ℕ) (at at' : ℕ) (out out' : List ℕ) : Type 0 where
  pub forth : at ≤ at'
  pub within : at' ≤ length out'
  pub text : take at' out' ++ rest' ≡ take at out ++ rest
  pub beyond : drop at' out' ≡ drop at' out

-- where the writing goes on after a part, if it does
module _ {A : Type 0} (rest : A → List ℕ) (left : A → ℕ) where
  -- a token, from a place of the buffer on
  pub record Token (part : A) (next : Option A) (at at' : ℕ) (out out' : List ℕ) : Type 0 where
    pub put : Put (rest part) (rest_at rest next) at at' out out'
    pub falls : left_at left next < suc (left part)

  -- a piece, of the first len bytes of the buffer; with room for the longest token the writing gets on
  pub record Piece (longest : ℕ) (part next : Option A) (len : ℕ) (out out' : List ℕ) : Type 0 where
    pub size : length out' ≡ length out
    pub within : len ≤ length out'
    pub text : take len out' ++ rest_at rest next ≡ rest_at rest part
    pub beyond : drop len out' ≡ drop len out
    pub falls : IsSome part → longest ≤ length out → left_at left next < left_at left part
