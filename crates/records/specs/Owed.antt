-- What the functions of the records owe each other and their callers; no reader of the promises needs it.
-- Assumes nothing.
use Rattle.std.specs.Prelude.{◌≡◌, true, List, ◌∷◌, ◌++◌, ℕ, ◌+◌, ◌-◌, ◌*◌, ◌≤◌, ◌<◌, ltb, leb, length, get_or}
use Rattle.ground.specs.Choose.{choose, one}
use Rattle.ground.specs.Lists.{elem, index_in, gather}
use Rattle.little.specs.Little.{le}
use Rattle.gates.specs.Gate.{pins_of}
use Rattle.records.specs.declared.Net as slices
use Rattle.records.specs.declared.Lined as lined_slices
use Rattle.records.specs.Net.{Net, gates_of, net_size, placed_of}

-- a net of lists
abbrev pub net_of : ℕ → List ℕ → List ℕ → List ℕ → List ℕ → Net
net_of inputs kinds firsts seconds outputs = record { inputs = inputs; kinds = kinds; firsts = firsts; seconds = seconds; outputs = outputs }

-- of slices
abbrev pub net_seen : slices.Net → Net
net_seen net = net_of net.inputs net.kinds.now net.firsts.now net.seconds.now net.outputs.now

-- all elements are below n
abbrev pub Below : List ℕ → ℕ → Type 0
Below l n = (i : ℕ) → i < length l → get_or l i 0 < n

-- each number is that of a gate or an input
abbrev pub NumbersBelow : Net → List ℕ → Type 0
NumbersBelow net l = Below l (net_size net)

-- all gates are placed, in this order; no more than 2,048 lines, and room for just their records
pub record PutRecordsReady (net : Net) (order records : List ℕ) : Type 0 where
  pub few : net_size net ≤ 2048
  pub room : length records ≡ 8 * net_size net
  pub order_is : order ≡ placed_of net
  pub placed : length order ≡ gates_of net
  pub kinds : length net.kinds ≡ gates_of net
  pub seconds : length net.seconds ≡ gates_of net
  pub output_numbers : NumbersBelow net net.outputs

-- and memory for the line of each gate and a flag for each number, with no flag set
pub record PutRecordsInReady (net : Net) (order line flag records : List ℕ) : Type 0 where
  pub fits : PutRecordsReady net order records
  pub lines : length line ≡ gates_of net
  pub flags : length flag ≡ net_size net
  pub unset : (x : ℕ) → get_or flag x 0 ≡ 0

-- ---- the line of each gate, and a flag for each number

pub record NumberLinesReady (order : List ℕ) (inputs : ℕ) (line : List ℕ) : Type 0 where
  pub few : inputs + length order < 65536
  pub gates : Below order (length line)

abbrev pub NumberLinesDone : List ℕ → ℕ → List ℕ → Type 0
NumberLinesDone order inputs line = (g : ℕ) → elem order g ≡ true → get_or line g 0 ≡ inputs + index_in order g

pub record MarkOutputsReady (outs flag : List ℕ) : Type 0 where
  pub unset : (x : ℕ) → get_or flag x 0 ≡ 0
  pub numbers : Below outs (length flag)

abbrev pub MarkOutputsDone : List ℕ → List ℕ → Type 0
MarkOutputsDone outs flag = (x : ℕ) → x < length flag → get_or flag x 0 ≡ one (elem outs x)

-- ---- the records by these

-- the line of a number
unfoldable pub line_by : List ℕ → ℕ → ℕ
line_by line x = choose (ltb x (length line)) (get_or line x 0) (x - length line)

-- what a kind's pin has, whose source is the number x
unfoldable pub source_by : List ℕ → ℕ → ℕ → ℕ → ℕ
source_by line kind pin x = choose (leb pin (pins_of kind)) (line_by line x) 0

unfoldable pub record_of : ℕ → ℕ → ℕ → ℕ → ℕ → List ℕ
record_of kind flag first second third = kind ∷ flag ∷ (le 2 first ++ (le 2 second ++ le 2 third))

-- a net's gates in their order, with lines and flags
pub record Lined : Type 0 where
  pub net : Net
  pub order : List ℕ
  pub line : List ℕ
  pub flag : List ℕ

abbrev pub lined_of : Net → List ℕ → List ℕ → List ℕ → Lined
lined_of net order line flag = record { net = net; order = order; line = line; flag = flag }

-- of slices
abbrev pub lined_seen : lined_slices.Lined → Lined
lined_seen l = lined_of (net_seen l.net.now) l.order.now l.line.now l.flag.now

abbrev pub line_count : Lined → ℕ
line_count l = l.net.inputs + length l.order

-- of gate g; no gate of a net has a third source
unfoldable pub gate_record : Lined → ℕ → List ℕ
gate_record l g =
    record_of (get_or l.net.kinds g 0) (get_or l.flag g 0)
    (source_by l.line (get_or l.net.kinds g 0) 1 (get_or l.net.firsts g 0))
    (source_by l.line (get_or l.net.kinds g 0) 2 (get_or l.net.seconds g 0))
    0

-- of line k
unfoldable pub record_by : Lined → ℕ → List ℕ
record_by l k =
    choose (ltb k l.net.inputs)
    (record_of 0 (get_or l.flag (length l.line + k) 0) 0 0 0)
    (gate_record l (get_or l.order (k - l.net.inputs) 0))

abbrev pub records_by : Lined → ℕ → List ℕ
records_by l n = gather (record_by l) n

-- gate g has what is read of it
pub record PutGateRoom (l : Lined) (g : ℕ) : Type 0 where
  pub kind : g < length l.net.kinds
  pub first : g < length l.net.firsts
  pub second : g < length l.net.seconds
  pub marked : g < length l.flag

-- so has each gate of the order, and each input its flag
pub record PutLinesReady (l : Lined) : Type 0 where
  pub few : line_count l ≤ 2048
  pub gates : (i : ℕ) → i < length l.order → PutGateRoom l (get_or l.order i 0)
  pub flags : l.net.inputs + length l.line ≤ length l.flag

-- line k is one of the lines, and there is room for its record
pub record PutLineReady (l : Lined) (k : ℕ) (records : List ℕ) (at : ℕ) : Type 0 where
  pub has : PutLinesReady l
  pub inside : k < line_count l
  pub room : at + 8 ≤ length records
