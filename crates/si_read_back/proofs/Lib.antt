pub mod PartsLemmas
mod SymbolParts
mod ConnectionLemmas
mod CellSpelling
mod NewNames
mod CellReading
mod InstanceValues
mod ItemLemmas
mod CellsReading
mod GateInstances
mod GateItems
mod ControllerText
mod StructureReading
